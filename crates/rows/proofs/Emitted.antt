-- The rows of an outline stand for the words of its instructions, and every loop's rows are there.
-- Rests on blocks and on the machine's words.
use mathlib.Core.Path.{◌≡◌, refl, sym, ap, ◌∙◌}
use mathlib.Core.Bool.{Bool, true, false, cond}
use mathlib.Core.List.{List, [], ◌∷◌, ◌++◌, map, map-append}
use Prim.Native.Nat.{ℕ, zero, suc, ◌+◌, ◌-◌, ◌*◌, ◌^◌, ◌≤◌}
use native.Mathlib.Nat.{add-mul, mul_comm, mul_right_comm, not-suc-le-zero, le_of_suc-le-suc}
use native.Mathlib.Omega.{arith}
use lib.Dec.{eqb}
use lib.IntN.{pos, nat_abs}
use lib.ListN.{length, get_or, length-append, length-map}
use lib.Seq.{take_at, drop_at, take-append_seam, drop-append_seam}
use Rattle.fields.specs.Fields.{join_of, bits_of}
use Rattle.machine.specs.Word.{packed, packed_set, encode}
use Rattle.plans.specs.declared.Counters.{Counters}
use Rattle.plans.specs.Limits.{far}
use Rattle.plans.specs.Blocks.{flat}
use Rattle.plans.specs.Regions.{address}
use Rattle.plans.specs.Outline.{Level, outer, middle, inner, counter, counted_to, Count, vertices, others, edges, times, times_of, Spot, fixed, at, after, entry, spot_of, Cell, cell_of, Number, small, minus_one, unreached, counted, from_source, number_of, Line, set, copy, add, less, equal, both, moveif, opens, instruction_of, Outline, end, line, run, each, again, instructions}
use Rattle.plans.proofs.Blocks.{flat_same, map_flat}
use Rattle.rows.specs.declared.Over.{Over}
use Rattle.rows.specs.declared.Over.TheVariants.{Nothing, Run}
use Rattle.rows.specs.declared.Row.{Row}
use Rattle.rows.specs.declared.Row.TheVariants.{Loop}
use Rattle.rows.specs.Table.{word_of, moving_of, turned, is_run, expand, Inside}
use Rattle.rows.specs.Rows.{env_of, same, offset, once, rowwise, base_of, stride_of, raw_of, raw_step, raw_other, word_row, word_of_line, row_of, count_of, over_level, rows_of}

-- ---- numbers that move with the counters

-- x is `base`, and a step of a counter adds `step`.
record Moves (k : Counters) (base : ℕ) (step : Level → ℕ) (x : ℕ) : Type 0 where
  is : x ≡ base + step outer * k.outer + step middle * k.middle + step inner * k.inner

-- A counter, `w` times.
counter_moves : (w : ℕ) (l : Level) (k : Counters)
    → counter l k * w ≡ same w outer l * k.outer + same w middle l * k.middle + same w inner l * k.inner
counter_moves w outer k = omega (arith, mul_comm k.outer w)
counter_moves w middle k = omega (arith, mul_comm k.middle w)
counter_moves w inner k = omega (arith, mul_comm k.inner w)

join_step : (h l s u x width : ℕ) → join_of (h + s * x) (l + u * x) width ≡ join_of h l width + join_of s u width * x
join_step h l s u x width =
    let p = 2 ^ width in
    omega (arith, add-mul h (s * x) p, mul_right_comm s x p, add-mul (s * p) u x)

module _ {k : Counters} where
  still : (x : ℕ) → Moves k x (λ l. 0) x
  still x = record { is = omega arith }

  level_moves : (l : Level) → Moves k 0 (λ i. same 1 i l) (counter l k)
  level_moves l = record { is = omega (arith, counter_moves 1 l k) }

  spot_moves : (n : ℕ) (s : Spot) → Moves k (offset s) (λ l. once l s + rowwise n l s) (spot_of n k s)
  spot_moves n (fixed j) = record { is = omega arith }
  spot_moves n (at l) = record { is = omega (arith, counter_moves 1 l k) }
  spot_moves n (after l) = record { is = omega (arith, counter_moves 1 l k) }
  spot_moves n (entry r c) =
      record {
        is = omega (
          arith,
          counter_moves n r k,
          counter_moves 1 c k,
          add-mul (same 1 outer c) (same n outer r) k.outer,
          add-mul (same 1 middle c) (same n middle r) k.middle,
          add-mul (same 1 inner c) (same n inner r) k.inner,
        );
      }

  join_moves : (width : ℕ) {h l x y : ℕ} {s u : Level → ℕ} → Moves k h s x → Moves k l u y
      → Moves k (join_of h l width) (λ i. join_of (s i) (u i) width) (join_of x y width)
  join_moves width {h} {l} {x} {y} {s} {u} e f =
      let h₁ = h + s outer * k.outer in
      let l₁ = l + u outer * k.outer in
      record {
        is = rw (e.is, f.is)
            (omega (
              arith,
              join_step (h₁ + s middle * k.middle) (l₁ + u middle * k.middle) (s inner) (u inner) k.inner width,
              join_step h₁ l₁ (s middle) (u middle) k.middle width,
              join_step h l (s outer) (u outer) k.outer width,
            ));
      }

-- ---- words

no_other : (b : Bool) (y : ℕ) → y + cond b 0 0 ≡ y
no_other true y = omega arith
no_other false y = omega arith

source_bits : (b : Bool) → 0 + cond b 0 (nat_abs far) ≡ bits_of 40 (cond b (pos 0) far)
unfolding bits_of
source_bits true = refl
source_bits false = refl

module _ (source : ℕ) (k : Counters) where
  three_word : (op : ℕ) {d a b x y z : ℕ} {s u v : Level → ℕ} → Moves k d s x → Moves k a u y → Moves k b v z
      → word_of source (word_row (packed op d a b) (λ l. packed 0 (s l) (u l) (v l)) 0) k ≡ packed op x y z
  unfolding word_of packed
  three_word op e f g =
      no_other (eqb k.inner source) _ ∙ sym (join_moves 20 (join_moves 20 (join_moves 20 (still op) e) f) g).is

  set_word : {d r x y : ℕ} (other : ℕ) {s u : Level → ℕ} → Moves k d s x → Moves k r u y
      → word_of source (word_row (packed_set d r) (λ l. packed_set (s l) (u l)) other) k
      ≡ packed_set x (y + cond (eqb k.inner source) 0 other)
  unfolding word_of packed_set
  set_word other e f = omega (arith, (join_moves 40 e f).is)

  plain_set : {d r x y : ℕ} {s u : Level → ℕ} → Moves k d s x → Moves k r u y
      → word_of source (word_row (packed_set d r) (λ l. packed_set (s l) (u l)) 0) k ≡ packed_set x y
  plain_set {x = x} {y = y} e f = set_word 0 e f ∙ ap (packed_set x) (no_other (eqb k.inner source) y)

  number_word : {d x : ℕ} {s : Level → ℕ} (z : Number) → Moves k d s x
      → word_of source (word_row (packed_set d (raw_of z)) (λ l. packed_set (s l) (raw_step l z)) (raw_other z)) k
      ≡ packed_set x (bits_of 40 (number_of far source k z))
  unfolding bits_of
  number_word (small j) e = plain_set e (still j)
  number_word minus_one e = plain_set e (still (2 ^ 40 - 1))
  number_word unreached e = plain_set e (still (nat_abs far))
  number_word (counted l) e = plain_set e (level_moves l)
  number_word {x = x} from_source e =
      set_word (nat_abs far) e (still 0) ∙ ap (packed_set x) (source_bits (eqb k.inner source))

-- ---- lists

-- A loop's words and those after it, of a loop's instructions and those after it.
loop_words : {X : Type 0} (word : X → ℕ) (count turns : ℕ) (f : ℕ → List ℕ) (g : ℕ → List X) {ws : List ℕ} (rest : List X)
    → count ≡ turns → ((j : ℕ) → f j ≡ map word (g j)) → ws ≡ map word rest → flat count f ++ ws ≡ map word (flat turns g ++ rest)
loop_words word count turns f g rest c e w =
    rw (c, w, flat_same turns f (λ j. map word (g j)) (λ j h. e j), map-append word (flat turns g) rest, map_flat word turns g)

-- ---- rows

over_counts : (l : Level) → (is_run (over_level l) ≡ false) × ((j : ℕ) (k : Counters) → turned (over_level l) j k ≡ counted_to l j k)
over_counts outer = (refl, λ j k. refl)
over_counts middle = (refl, λ j k. refl)
over_counts inner = (refl, λ j k. refl)

-- A loop over xs, and ys after it.
module _ (d : ℕ) (over : Over) (count : ℕ) (xs ys : List Row) where
  loop_expands : (source : ℕ) (k : Counters) → is_run over ≡ false
      → expand source (suc d) (Loop over count (length xs) ∷ (xs ++ ys)) k
      ≡ flat count (λ j. expand source d xs (turned over j k)) ++ expand source d ys k
  unfolding expand
  loop_expands source k not_run = rw (not_run, take-append_seam xs ys, drop-append_seam xs ys)

  loop_inside : (size : ℕ) → length xs ≡ size → Inside d xs → Inside d ys → Inside (suc d) (Loop over count size ∷ (xs ++ ys))
  unfolding Inside
  loop_inside size e a b =
      rw (take_at xs ys size e, drop_at xs ys size e) (omega (arith, length-append xs ys), a, b)

module _ (n : ℕ) (env : List ℕ) where
  words_inside : (ls : List Line) (d : ℕ) → Inside d (map (row_of n env) ls)
  unfolding Inside
  words_inside [] zero = tt
  words_inside [] (suc d) = tt
  words_inside (x ∷ ls) zero = tt
  words_inside (x ∷ ls) (suc d) = words_inside ls d

  pub inside : (o : Outline) (d : ℕ) → length (rows_of n env o) ≤ d → Inside d (rows_of n env o)
  unfolding Inside rows_of
  inside o zero h = tt
  inside end (suc d) h = tt
  inside (line x p) (suc d) h = inside p d (le_of_suc-le-suc h)
  inside (run c ls p) (suc d) h =
      let xs = map (row_of n env) ls in
      let long = length-append xs (rows_of n env p) in
      loop_inside d Run (count_of n env c) xs (rows_of n env p) (length ls) (length-map ls (row_of n env))
      (words_inside ls d) (inside p d (omega arith))
  inside (each l c b p) (suc d) h =
      let long = length-append (rows_of n env b) (rows_of n env p) in
      loop_inside d (over_level l) (count_of n env c) (rows_of n env b) (rows_of n env p) (length (rows_of n env b)) refl
      (inside b d (omega arith)) (inside p d (omega arith))
  inside (again c b p) (suc d) h =
      let long = length-append (rows_of n env b) (rows_of n env p) in
      loop_inside d Nothing (count_of n env c) (rows_of n env b) (rows_of n env p) (length (rows_of n env b)) refl
      (inside b d (omega arith)) (inside p d (omega arith))

-- ---- an outline

-- Regions begin where the list says, however many there are; past its end at 0.
region_at : (n m : ℕ) (starts : List ℕ) (r : ℕ) → get_or (env_of n m starts) (4 + r) 0 ≡ get_or starts r 0
region_at n m starts r = let e : 4 + r ≡ suc (suc (suc (suc r))) = omega arith in rw e

module _ (n m source : ℕ) (starts : List ℕ) where
  abbrev env : List ℕ
  env = env_of n m starts

  cell_moves : (k : Counters) (c : Cell) → Moves k (base_of env c) (λ l. stride_of n l c) (cell_of (address starts) far n m source k c)
  cell_moves k (r, s) =
      record { is = omega (arith, region_at n m starts r, (spot_moves {k = k} n s).is) }

  pub row_word : (k : Counters) (x : Line)
      → word_of source (word_of_line n env x) k ≡ encode (instruction_of (address starts) far n m source k x)
  row_word k (set d z) = number_word source k z (cell_moves k d)
  row_word k (copy d a) = three_word source k 1 (cell_moves k d) (cell_moves k a) (still 0)
  row_word k (add d a b) = three_word source k 2 (cell_moves k d) (cell_moves k a) (cell_moves k b)
  row_word k (less d a b) = three_word source k 3 (cell_moves k d) (cell_moves k a) (cell_moves k b)
  row_word k (equal d a b) = three_word source k 4 (cell_moves k d) (cell_moves k a) (cell_moves k b)
  row_word k (both d a b) = three_word source k 5 (cell_moves k d) (cell_moves k a) (cell_moves k b)
  row_word k (moveif d a b) = three_word source k 6 (cell_moves k d) (cell_moves k a) (cell_moves k b)
  row_word k (opens a) = three_word source k 7 (still 0) (cell_moves k a) (still 0)

  run_words : (k : Counters) (ls : List Line)
      → map (λ y. word_of source (moving_of y) k) (map (row_of n env) ls) ≡ map encode (map (instruction_of (address starts) far n m source k) ls)
  run_words k [] = refl
  run_words k (x ∷ ls) = rw (row_word k x, run_words k ls)

  count_is : (c : Count) → count_of n env c ≡ times_of n m c
  count_is vertices = omega arith
  count_is others = omega arith
  count_is edges = omega arith
  count_is (times k) = omega arith

  pub emits : (o : Outline) (k : Counters) (d : ℕ) → length (rows_of n env o) ≤ d
      → expand source d (rows_of n env o) k ≡ map encode (instructions (address starts) far n m source o k)
  unfolding expand rows_of instructions
  emits end k zero h = refl
  emits end k (suc d) h = refl
  emits (line x p) k zero h = absurd (not-suc-le-zero h)
  emits (line x p) k (suc d) h = rw (row_word k x, emits p k d (le_of_suc-le-suc h))
  emits (run c ls p) k zero h = absurd (not-suc-le-zero h)
  emits (run c ls p) k (suc d) h =
      let xs = map (row_of n env) ls in
      let long = length-append xs (rows_of n env p) in
      let e = length-map ls (row_of n env) in
      rw (take_at xs (rows_of n env p) (length ls) e, drop_at xs (rows_of n env p) (length ls) e)
      (loop_words encode _ _ _ _ _ (count_is c) (λ j. run_words (counted_to inner j k) ls) (emits p k d (omega arith)))
  emits (each l c b p) k zero h = absurd (not-suc-le-zero h)
  emits (each l c b p) k (suc d) h =
      let t = over_counts l in
      let long = length-append (rows_of n env b) (rows_of n env p) in
      loop_expands d (over_level l) (count_of n env c) (rows_of n env b) (rows_of n env p) source k t.0
      ∙ loop_words encode _ _ _ _ _ (count_is c)
      (λ j. ap (expand source d (rows_of n env b)) (t.1 j k) ∙ emits b (counted_to l j k) d (omega arith)) (emits p k d (omega arith))
  emits (again c b p) k zero h = absurd (not-suc-le-zero h)
  emits (again c b p) k (suc d) h =
      let long = length-append (rows_of n env b) (rows_of n env p) in
      loop_expands d Nothing (count_of n env c) (rows_of n env b) (rows_of n env p) source k refl
      ∙ loop_words encode _ _ _ _ _ (count_is c)
      (λ j. emits b k d (omega arith)) (emits p k d (omega arith))
