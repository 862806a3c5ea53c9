-- Intake (document 01, "Cell words"): it only lays fields of the request's words into cells, a field to a cell, at places fixed by the
-- header; the rest of the needed cells start at 0. Rests on the methods' cells.
use Rattle.std.specs.Prelude.{Bool, cond, ◌&&◌, List, [], ◌∷◌, ◌++◌, ℕ, ◌+◌, ◌-◌, ◌*◌, ◌≤◌, leb, ltb, ℤ, pos, length, get_or, drop, replicate}
use Rattle.fields.specs.Fields.{signed_of}
use Rattle.machine.specs.Effect.{eq_z}
use Rattle.plans.specs.declared.Header.{Header}
use Rattle.plans.specs.Limits.{far, no_edge, by_method}
use Rattle.plans.specs.Blocks.{flat}
use Rattle.plans.specs.Plan.{cells_of}
use Rattle.limits.specs.Word.{from_field, to_field, weight_of}
use Rattle.intake.specs.declared.Part.{Part}
use Rattle.intake.specs.declared.Part.TheVariants.{From, To, Weight, Entry, Whole}
use Rattle.intake.specs.declared.Strip.{Strip}

-- ---- what is laid, by method

-- A strip: `count` cells from `at` on, each with one part of one word, of the words from `word` on.
abbrev pub strip : (at count word : ℕ) (part : Part) → Strip
strip at count word part = record { at = at; count = count; word = word; part = part }

-- Of m edges: from-vertices from cell 0 on, to-vertices and weights from these.
abbrev pub edge_strips : (m to weight : ℕ) → List Strip
edge_strips m to weight = strip 0 m 0 From ∷ strip to m 0 To ∷ strip weight m 0 Weight ∷ []

unfoldable pub strips_of : Header → List Strip
strips_of h =
    let n = h.vertices in
    let m = h.edges in
    by_method h.method []
    (edge_strips m m (2 * m)
    ∷ (strip 0 (n * n) 0 Entry ∷ [])
    ∷ edge_strips m (m + 1) (2 * m + 1)
    ∷ edge_strips m m (2 * m)
    ∷ (edge_strips m m (2 * m) ++ (strip (3 * m + 3 * n + 8) 1 m Whole ∷ []))
    ∷ [])

-- ---- where a needed cell's first number comes from

-- One field of one of the words after the header, or 0.
pub data Source : Type 0 where
  field : (word : ℕ) (part : Part) → Source
  nothing : Source

-- The i-th cell of a strip.
abbrev pub source_in : Strip → (i : ℕ) → Source
source_in r i = field (r.word + i) r.part

abbrev pub covers : Strip → (cell : ℕ) → Bool
covers r k = leb r.at k && ltb k (r.at + r.count)

-- Of strips laid one after the other the last that covers a cell counts; before them it had s.
abbrev pub source_from : List Strip → (cell : ℕ) (s : Source) → Source
source_from [] k s = s
source_from (r ∷ rs) k s = source_from rs k (cond (covers r k) (source_in r (k - r.at)) s)

-- It follows from the header and the cell alone.
unfoldable pub source_of : Header → (cell : ℕ) → Source
source_of h k = source_from (strips_of h) k nothing

-- ---- the starting cells

-- -1 as FAR, every other number as it is.
abbrev pub or_far : ℤ → ℤ
or_far z = cond (eq_z z no_edge) far z

-- A field of a word. `Entry` is method 2's weight, -1 as FAR; `Whole`, all 64 bits in two's complement, is method 5's destination.
abbrev pub part_of : Part → (word : ℕ) → ℤ
part_of From w = pos (from_field w)
part_of To w = pos (to_field w)
part_of Weight w = weight_of w
part_of Entry w = or_far (weight_of w)
part_of Whole w = signed_of 64 w

-- What a source gives, from the words after the header.
unfoldable pub laid : List ℕ → Source → ℤ
laid ws (field i part) = part_of part (get_or ws i 0)
laid ws nothing = pos 0

-- The first `count` places of a buffer become f's, the rest stay.
unfoldable pub copied : (count : ℕ) (f : ℕ → ℤ) (buffer : List ℤ) → List ℤ
copied count f buffer = flat count (λ k. f k ∷ []) ++ drop count buffer

-- The needed cells as intake lays them, the others as lent.
unfoldable pub starting_cells : (h : Header) (words : List ℕ) (lent : List ℤ) → List ℤ
starting_cells h ws lent = copied (cells_of h) (λ k. laid ws (source_of h k)) lent

-- ---- strip by strip, as the code lays them

-- The numbers that a strip's cells get.
abbrev pub strip_numbers : Strip → List ℕ → List ℤ
strip_numbers r ws = flat r.count (λ i. laid ws (source_in r i) ∷ [])

-- Its words and its cells are there.
pub record StripFits (words cells : ℕ) (r : Strip) : Type 0 where
  pub read : r.word + r.count ≤ words
  pub written : r.at + r.count ≤ cells

-- The code has the strips of a method in an array, as long as the most of them, with empty ones after those that there are.
abbrev pub most_strips : ℕ
most_strips = 4

abbrev pub empty : Strip
empty = strip 0 0 0 From

abbrev pub padded : List Strip → List Strip
padded rs = rs ++ replicate (most_strips - length rs) empty
