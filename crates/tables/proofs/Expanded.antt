-- Laws of what rows stand for: any depth that is enough gives the same, and a row is taken off in front of the rest.
-- Rests on rows' Blocks.
use mathlib.Core.Path.{◌≡◌, refl, sym, ap, subst, ◌∙◌}
use mathlib.Core.Bool.{cond}
use mathlib.Core.List.{List, [], ◌∷◌, ◌++◌, map}
use Prim.Native.Nat.{ℕ, zero, suc, ◌≤◌}
use native.Mathlib.Nat.{not-suc-le-zero, le_of_suc-le-suc}
use native.Mathlib.Omega.{arith}
use lib.ListN.{length, take, drop, length-take, length-drop}
use Rattle.plans.specs.declared.Counters.{Counters}
use Rattle.plans.specs.Blocks.{flat}
use Rattle.plans.specs.Outline.{inner, counted_to}
use Rattle.rows.specs.declared.Row.{Row}
use Rattle.rows.specs.declared.Row.TheVariants.{Word, Loop}
use Rattle.rows.specs.Table.{word_of, moving_of, turned, is_run, expand, Inside}
use Rattle.rows.proofs.Blocks.{flat_front}
use Rattle.tables.specs.Writing.{size_of, moving_at, block, straight, running, looping, unrolled}

-- ---- depths

less : (s d : ℕ) (xs : List Row) → length xs ≤ d → (length (take s xs) ≤ d) × (length (drop s xs) ≤ d)
less s d xs h = (omega (arith, length-take s xs), omega (arith, length-drop s xs))

-- Any two depths that are enough.
same : (source d e : ℕ) (xs : List Row) → length xs ≤ d → length xs ≤ e → (k : Counters) → expand source d xs k ≡ expand source e xs k
unfolding expand
same source zero zero xs h i k = refl
same source zero (suc e) [] h i k = refl
same source zero (suc e) (x ∷ xs) h i k = absurd (not-suc-le-zero h)
same source (suc d) zero [] h i k = refl
same source (suc d) zero (x ∷ xs) h i k = absurd (not-suc-le-zero i)
same source (suc d) (suc e) [] h i k = refl
same source (suc d) (suc e) (Word x ∷ xs) h i k =
    ap (λ (ws : List ℕ). word_of source x k ∷ ws) (same source d e xs (le_of_suc-le-suc h) (le_of_suc-le-suc i) k)
same source (suc d) (suc e) (Loop over turns rows ∷ xs) h i k =
    let l = less rows d xs (le_of_suc-le-suc h) in
    let m = less rows e xs (le_of_suc-le-suc i) in
    λ v.
    cond (is_run over)
    (flat turns (λ j. map (λ y. word_of source (moving_of y) (counted_to inner j k)) (take rows xs)))
    (flat turns (λ j. same source d e (take rows xs) l.0 m.0 (turned over j k) v))
    ++ same source d e (drop rows xs) l.1 m.1 k v

same_inside : (d e : ℕ) (xs : List Row) → length xs ≤ d → length xs ≤ e → Inside d xs ≡ Inside e xs
unfolding Inside
same_inside zero zero xs h i = refl
same_inside zero (suc e) [] h i = refl
same_inside zero (suc e) (x ∷ xs) h i = absurd (not-suc-le-zero h)
same_inside (suc d) zero [] h i = refl
same_inside (suc d) zero (x ∷ xs) h i = absurd (not-suc-le-zero i)
same_inside (suc d) (suc e) [] h i = refl
same_inside (suc d) (suc e) (Word x ∷ xs) h i = same_inside d e xs (le_of_suc-le-suc h) (le_of_suc-le-suc i)
same_inside (suc d) (suc e) (Loop over turns rows ∷ xs) h i =
    let l = less rows d xs (le_of_suc-le-suc h) in
    let m = less rows e xs (le_of_suc-le-suc i) in
    λ v.
    (rows ≤ length xs) × same_inside d e (take rows xs) l.0 m.0 v × same_inside d e (drop rows xs) l.1 m.1 v

-- ---- rows that are all words

rows_straight : (source : ℕ) (rows : List Row) (k : Counters) → map (λ y. word_of source (moving_of y) k) rows ≡ straight source rows k
unfolding straight flat
rows_straight source [] k = refl
rows_straight source (x ∷ rows) k =
    ap (λ (ws : List ℕ). word_of source (moving_of x) k ∷ ws) (rows_straight source rows k)
    ∙ sym (flat_front (λ j. word_of source (moving_at (x ∷ rows) j) k ∷ []) (length rows))

-- ---- a row taken off

-- Its own rows are there, and they and the rest have theirs.
pub own_there : (x : Row) (xs : List Row) → Inside (length (x ∷ xs)) (x ∷ xs)
    → (size_of x ≤ length xs)
    × Inside (length (take (size_of x) xs)) (take (size_of x) xs)
    × Inside (length (drop (size_of x) xs)) (drop (size_of x) xs)
unfolding Inside
own_there (Word x) xs i = (omega arith, tt, i)
own_there (Loop over turns rows) xs i =
    let n = length xs in
    let l = less rows n xs (omega arith) in (
      i.0,
      subst (λ (T : Type 0). T) (same_inside n (length (take rows xs)) (take rows xs) l.0 (omega arith)) i.1,
      subst (λ (T : Type 0). T) (same_inside n (length (drop rows xs)) (drop rows xs) l.1 (omega arith)) i.2,
    )

-- The words of a row and its own, then those of the rest.
pub next_row : (source : ℕ) (x : Row) (xs : List Row) (k : Counters)
    → block source (x ∷ xs) k ≡ unrolled source x (take (size_of x) xs) k ++ block source (drop (size_of x) xs) k
unfolding block expand unrolled running looping
next_row source (Word x) xs k = refl
next_row source (Loop over turns rows) xs k =
    let n = length xs in
    let l = less rows n xs (omega arith) in
    λ v.
    cond (is_run over) (flat turns (λ j. rows_straight source (take rows xs) (counted_to inner j k) v))
    (flat turns (λ j. same source n (length (take rows xs)) (take rows xs) l.0 (omega arith) (turned over j k) v))
    ++ same source n (length (drop rows xs)) (drop rows xs) l.1 (omega arith) k v
