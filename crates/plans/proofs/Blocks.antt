-- Lists made of blocks: sums over a weight, equal blocks, one element for each place, what holds of every element, and lists mapped. For any type of elements.
-- Rests on the definitions alone.
use mathlib.Core.Path.{◌≡◌, refl, sym, ap, ap₂, ◌∙◌}
use mathlib.Core.Logic.{⊎_elim}
use mathlib.Core.List.{List, [], ◌∷◌, ◌++◌, map, map-append}
use Prim.Native.Nat.{ℕ, zero, suc, ◌+◌, ◌*◌, ◌<◌}
use native.Mathlib.Nat.{zero-add, add_assoc, zero-mul, suc-mul, eq-or-lt_of_le, le_of_suc-le-suc, not-suc-le-zero, le_step, lt-suc_self}
use native.Mathlib.Omega.{arith}
use lib.ListN.{length, get_or, length-append, get_or-append}
use lib.Seq.{get_or-append-add}
use Rattle.machine.specs.Instruction.{All}
use Rattle.machine.specs.Log.{sum_of}
use Rattle.plans.specs.Blocks.{flat}

-- ---- sums

module _ {X : Type 0} (w : X → ℕ) where
  pub sum_append : (xs ys : List X) → sum_of w (xs ++ ys) ≡ sum_of w xs + sum_of w ys
  unfolding sum_of
  sum_append [] ys = sym (zero-add (sum_of w ys))
  sum_append (x ∷ xs) ys =
      ap (λ (k : ℕ). w x + k) (sum_append xs ys) ∙ sym (add_assoc (w x) (sum_of w xs) (sum_of w ys))

  -- Blocks of one sum, and a rest.
  module _ (one : ℕ) (f : ℕ → List X) (same : (i : ℕ) → sum_of w (f i) ≡ one) where
    sum_flat : (count : ℕ) → sum_of w (flat count f) ≡ count * one
    unfolding flat sum_of
    sum_flat zero = sym (zero-mul one)
    sum_flat (suc count) =
        sum_append (flat count f) (f count) ∙ omega (arith, sum_flat count, same count, suc-mul count one)

    pub sum_blocks : (count : ℕ) (ys : List X) (k : ℕ) → sum_of w ys ≡ k → sum_of w (flat count f ++ ys) ≡ count * one + k
    sum_blocks count ys k e = sum_append (flat count f) ys ∙ ap₂ ◌+◌ (sum_flat count) e

-- A length is the sum of ones.
pub sum_ones : {X : Type 0} (xs : List X) → sum_of (λ x. 1) xs ≡ length xs
unfolding sum_of
sum_ones [] = refl
sum_ones (x ∷ xs) = omega (arith, sum_ones xs)

-- Elements of which P holds weigh as much when mapped.
pub sum_map : {X Z : Type 0} (P : X → Type 0) (w : X → ℕ) (f : X → Z) (u : Z → ℕ)
    → ((x : X) → P x → u (f x) ≡ w x) → (xs : List X) → All P xs → sum_of u (map f xs) ≡ sum_of w xs
unfolding sum_of
sum_map P w f u s [] p = refl
sum_map P w f u s (x ∷ xs) p = omega (arith, s x p.0, sum_map P w f u s xs p.1)

-- ---- equal blocks

pub flat_same : {X : Type 0} (count : ℕ) (f g : ℕ → List X) → ((j : ℕ) → j < count → f j ≡ g j) → flat count f ≡ flat count g
unfolding flat
flat_same zero f g e = refl
flat_same (suc count) f g e = rw (e count (lt-suc_self count), flat_same count f g (λ j h. e j (le_step h)))

-- ---- one element for each place

module _ {X : Type 0} (f : ℕ → X) where
  pub ones_length : (count : ℕ) → length (flat count (λ k. f k ∷ [])) ≡ count
  unfolding flat
  ones_length zero = refl
  ones_length (suc count) =
      omega (arith, length-append (flat count (λ k. f k ∷ [])) (f count ∷ []), ones_length count)

  pub ones_at : (count : ℕ) (d : X) (k : ℕ) → k < count → get_or (flat count (λ k. f k ∷ [])) k d ≡ f k
  unfolding flat
  ones_at zero d k l = absurd (not-suc-le-zero l)
  ones_at (suc count) d k l =
      let before = flat count (λ k. f k ∷ []) in
      let size = ones_length count in
      let last : length before + 0 ≡ count = omega arith in
      ⊎_elim (λ (e : k ≡ count). rw e (rw last at (get_or-append-add before (f count ∷ []) 0 d)))
      (λ (h : k < count). get_or-append before (f count ∷ []) d k (omega arith) ∙ ones_at count d k h)
      (eq-or-lt_of_le (le_of_suc-le-suc l))

-- ---- what holds of every element

module _ {X : Type 0} (P : X → Type 0) where
  all_append : (xs ys : List X) → All P xs → All P ys → All P (xs ++ ys)
  all_append [] ys p q = q
  all_append (x ∷ xs) ys p q = (p.0, all_append xs ys p.1 q)

  all_flat : (count : ℕ) (f : ℕ → List X) → ((i : ℕ) → i < count → All P (f i)) → All P (flat count f)
  unfolding flat
  all_flat zero f p = tt
  all_flat (suc count) f p =
      all_append (flat count f) (f count) (all_flat count f (λ i h. p i (le_step h))) (p count (lt-suc_self count))

  -- Blocks and a rest.
  pub all_blocks : (count : ℕ) (f : ℕ → List X) (ys : List X) → ((i : ℕ) → i < count → All P (f i)) → All P ys
      → All P (flat count f ++ ys)
  all_blocks count f ys p q = all_append (flat count f) ys (all_flat count f p) q

  pub all_both : (Q : X → Type 0) (xs : List X) → All P xs → All Q xs → All (λ x. P x × Q x) xs
  all_both Q [] p q = tt
  all_both Q (x ∷ xs) p q = ((p.0, q.0), all_both Q xs p.1 q.1)

  -- What follows from P.
  pub all_map : {Z : Type 0} (f : X → Z) (Q : Z → Type 0) → ((x : X) → P x → Q (f x))
      → (xs : List X) → All P xs → All Q (map f xs)
  all_map f Q s [] p = tt
  all_map f Q s (x ∷ xs) p = (s x p.0, all_map f Q s xs p.1)

-- ---- mapped

module _ {X Z : Type 0} (f : X → Z) where
  pub map_flat : (count : ℕ) (g : ℕ → List X) → map f (flat count g) ≡ flat count (λ j. map f (g j))
  unfolding flat
  map_flat zero g = refl
  map_flat (suc count) g = map-append f (flat count g) (g count) ∙ ap (λ l. l ++ map f (g count)) (map_flat count g)
