-- The rows of an outline, for the counts and the regions' first cells in `env`.
-- Rests on outlines and the machine's words.
use Rattle.std.specs.Prelude.{List, [], ◌∷◌, ◌++◌, map, ℕ, ◌+◌, ◌-◌, ◌^◌, nat_abs, length, get_or}
use Rattle.machine.specs.Word.{packed, packed_set}
use Rattle.plans.specs.Limits.{far}
use Rattle.plans.specs.Outline.{Level, outer, middle, inner, Count, vertices, others, edges, times, Spot, fixed, at, after, entry, Cell, Number, small, minus_one, unreached, counted, from_source, Line, set, copy, add, less, equal, both, moveif, opens, Outline, end, line, run, each, again}
use Rattle.rows.specs.declared.Moving.{Moving}
use Rattle.rows.specs.declared.Over.{Over}
use Rattle.rows.specs.declared.Level.TheVariants.{Outer, Middle, Inner}
use Rattle.rows.specs.declared.Over.TheVariants.{Counter, Nothing, Run}
use Rattle.rows.specs.declared.Row.{Row}
use Rattle.rows.specs.declared.Row.TheVariants.{Word, Loop}

-- What an operand's first cell, or a count, is looked up in: 0, n, m, n - 1, and where the regions begin, as many as there are.
abbrev pub env_of : (n m : ℕ) (starts : List ℕ) → List ℕ
env_of n m starts = 0 ∷ n ∷ m ∷ (n - 1) ∷ starts

-- ---- cells: where the counters are 0, and what a step of a counter adds

-- w for the same level, else 0.
abbrev pub same : (w : ℕ) → Level → Level → ℕ
same w outer outer = w
same w outer middle = 0
same w outer inner = 0
same w middle outer = 0
same w middle middle = w
same w middle inner = 0
same w inner outer = 0
same w inner middle = 0
same w inner inner = w

abbrev pub offset : Spot → ℕ
offset (fixed j) = j
offset (at l) = 0
offset (after l) = 1
offset (entry r c) = 0

-- Once, and n times.
abbrev pub once : Level → Spot → ℕ
once l (fixed j) = 0
once l (at k) = same 1 l k
once l (after k) = same 1 l k
once l (entry r c) = same 1 l c

abbrev pub rowwise : (n : ℕ) → Level → Spot → ℕ
rowwise n l (fixed j) = 0
rowwise n l (at k) = 0
rowwise n l (after k) = 0
rowwise n l (entry r c) = same n l r

abbrev pub base_of : (env : List ℕ) → Cell → ℕ
base_of env (region, spot) = get_or env (4 + region) 0 + offset spot

abbrev pub stride_of : (n : ℕ) → Level → Cell → ℕ
stride_of n l (region, spot) = once l spot + rowwise n l spot

-- ---- numbers, as SET's 40 bits

abbrev pub raw_of : Number → ℕ
raw_of (small j) = j
raw_of minus_one = 2 ^ 40 - 1
raw_of unreached = nat_abs far
raw_of (counted l) = 0
raw_of from_source = 0

abbrev pub raw_step : Level → Number → ℕ
raw_step l (small j) = 0
raw_step l minus_one = 0
raw_step l unreached = 0
raw_step l (counted k) = same 1 l k
raw_step l from_source = 0

abbrev pub raw_other : Number → ℕ
raw_other (small j) = 0
raw_other minus_one = 0
raw_other unreached = 0
raw_other (counted l) = 0
raw_other from_source = nat_abs far

-- ---- rows

-- A word of an op and three fields at counters 0, and their steps.
abbrev pub word_row : (base : ℕ) (step : Level → ℕ) (other : ℕ) → Moving
word_row base step other = record { base = base; outer = step outer; middle = step middle; inner = step inner; other = other }

abbrev pub over_level : Level → Over
over_level outer = Counter Outer
over_level middle = Counter Middle
over_level inner = Counter Inner

module _ (n : ℕ) (env : List ℕ) where
  abbrev three_row : (op : ℕ) (d a b : Cell) → Moving
  three_row op d a b =
      word_row (packed op (base_of env d) (base_of env a) (base_of env b))
      (λ l. packed 0 (stride_of n l d) (stride_of n l a) (stride_of n l b)) 0

  abbrev pub word_of_line : Line → Moving
  word_of_line (set d z) =
      word_row (packed_set (base_of env d) (raw_of z)) (λ l. packed_set (stride_of n l d) (raw_step l z)) (raw_other z)
  word_of_line (copy d a) =
      word_row (packed 1 (base_of env d) (base_of env a) 0) (λ l. packed 0 (stride_of n l d) (stride_of n l a) 0) 0
  word_of_line (add d a b) = three_row 2 d a b
  word_of_line (less d a b) = three_row 3 d a b
  word_of_line (equal d a b) = three_row 4 d a b
  word_of_line (both d a b) = three_row 5 d a b
  word_of_line (moveif d a b) = three_row 6 d a b
  word_of_line (opens a) = word_row (packed 7 0 (base_of env a) 0) (λ l. packed 0 0 (stride_of n l a) 0) 0

  abbrev pub row_of : Line → Row
  row_of x = Word (word_of_line x)

  -- An entry and a number, as in a cell.
  abbrev pub count_of : Count → ℕ
  count_of vertices = get_or env 1 0 + 0
  count_of edges = get_or env 2 0 + 0
  count_of others = get_or env 3 0 + 0
  count_of (times k) = get_or env 0 0 + k

  unfoldable pub rows_of : Outline → List Row
  rows_of end = []
  rows_of (line x p) = row_of x ∷ rows_of p
  rows_of (run c ls p) = Loop Run (count_of c) (length ls) ∷ (map row_of ls ++ rows_of p)
  rows_of (each l c b p) = Loop (over_level l) (count_of c) (length (rows_of b)) ∷ (rows_of b ++ rows_of p)
  rows_of (again c b p) = Loop Nothing (count_of c) (length (rows_of b)) ∷ (rows_of b ++ rows_of p)
