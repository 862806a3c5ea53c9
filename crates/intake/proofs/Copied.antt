-- A buffer written over, its first places or those from a place on, one after the other: the loops that do it, and what each place then holds.
-- Rests on blocks and on lists' Sets.
use mathlib.Core.Path.{◌≡◌, refl, sym, ap, ◌∙◌}
use mathlib.Core.Logic.{⊎_elim}
use mathlib.Core.List.{List, [], ◌∷◌, ◌++◌}
use Prim.Native.Nat.{ℕ, zero, suc, ◌+◌, ◌-◌, ◌^◌, ◌<◌, ◌≤◌}
use native.Mathlib.Nat.{eq-or-lt_of_le, eq-zero-or-pos, le_of_suc-le-suc, not-suc-le-zero}
use native.Mathlib.Numerals.{add-one}
use native.Mathlib.Omega.{arith}
use lib.IntN.{ℤ, pos}
use lib.ListN.{length, set, get_or, take, drop, replicate, length-append, length-drop, length-replicate, get_or-append, get_or-replicate}
use Rattle.std.proofs.lemmas.List.{get_or-take}
use lib.Seq.{sets, length-sets, length-take-le, drop_at, ext_get_or, get_or-append-add, get_or-drop, get_or-set_same, get_or-set_other}
use lib.Signed.{mag}
use Rattle.lists.proofs.Sets.{sets_append}
use Rattle.machine.proofs.Tested.{back, kept}
use Rattle.plans.specs.Blocks.{flat}
use Rattle.plans.proofs.Blocks.{ones_length, ones_at}
use Rattle.intake.specs.Intake.{copied}

module _ (count : ℕ) (f : ℕ → ℤ) where
  -- What is written.
  abbrev pub ones : List ℤ
  ones = flat count (λ k. f k ∷ [])

  module _ (buffer : List ℤ) where
    -- ---- what each place then holds

    pub copied_long : count ≤ length buffer → length (copied count f buffer) ≡ length buffer
    unfolding copied
    copied_long l = length-append ones (drop count buffer) ∙ omega (arith, ones_length f count, length-drop count buffer)

    pub copied_at : (v : ℕ) → v < count → get_or (copied count f buffer) v (pos 0) ≡ f v
    unfolding copied
    copied_at v l =
        get_or-append ones (drop count buffer) (pos 0) v (omega (arith, ones_length f count)) ∙ ones_at f count (pos 0) v l

    pub copied_beyond : drop count (copied count f buffer) ≡ drop count buffer
    unfolding copied
    copied_beyond = drop_at ones (drop count buffer) count (ones_length f count)

    pub copied_rest : (k : ℕ) → count ≤ k → get_or (copied count f buffer) k (pos 0) ≡ get_or buffer k (pos 0)
    unfolding copied
    copied_rest k l =
        let e : k ≡ length ones + (k - count) = omega (arith, ones_length f count) in
        let d : count + (k - count) ≡ k = omega arith in
        ap (λ (j : ℕ). get_or (ones ++ drop count buffer) j (pos 0)) e
        ∙ get_or-append-add ones (drop count buffer) (k - count) (pos 0)
        ∙ get_or-drop count buffer (k - count) (pos 0)
        ∙ ap (λ (j : ℕ). get_or buffer j (pos 0)) d

-- What is filled with one number.
pub filled : (count n : ℕ) (v : ℤ) (buffer first : List ℤ) → n ≡ count → first ≡ replicate n v
    → first ++ drop count buffer ≡ copied count (λ k. v) buffer
unfolding copied
filled count n v buffer first e is =
    let f = λ (k : ℕ). v in
    let long = length-replicate count v in
    let same : replicate count v ≡ ones count f =
    ext_get_or v _ _ (long ∙ sym (ones_length f count))
    (λ k l. get_or-replicate count k v v (omega (arith, long)) ∙ sym (ones_at f count v k (omega (arith, long)))) in
    ap (λ (xs : List ℤ). xs ++ drop count buffer) (is ∙ ap (λ (j : ℕ). replicate j v) e ∙ same)

-- What is copied from a row of places is that part of the list.
pub part_copied : (count first : ℕ) (xs : List ℤ) → first + count ≤ length xs
    → take count (drop first xs) ≡ ones count (λ i. get_or xs (first + i) (pos 0))
part_copied count first xs l =
    let f = λ (i : ℕ). get_or xs (first + i) (pos 0) in
    let long : length (take count (drop first xs)) ≡ count = length-take-le count (drop first xs) (omega (arith, length-drop first xs)) in
    ext_get_or (pos 0) _ _ (long ∙ sym (ones_length f count))
    (λ k i. get_or-take count (drop first xs) k (pos 0) (omega arith) ∙ get_or-drop first xs k (pos 0) ∙ sym (ones_at f count (pos 0) k (omega arith)))

-- Where two agree on a place, it holds the same.
pub copied_same : (count : ℕ) (f g : ℕ → ℤ) (buffer : List ℤ) (k : ℕ) → f k ≡ g k
    → get_or (copied count f buffer) k (pos 0) ≡ get_or (copied count g buffer) k (pos 0)
copied_same count f g buffer k e =
    ⊎_elim
    (λ (z : count - k ≡ 0). copied_rest count f buffer k (omega arith) ∙ sym (copied_rest count g buffer k (omega arith)))
    (λ (l : 0 < count - k). copied_at count f buffer k (omega arith) ∙ e ∙ sym (copied_at count g buffer k (omega arith)))
    (eq-zero-or-pos (count - k))

-- ---- from a place on

module _ (f : ℕ → ℤ) (buffer : List ℤ) (at : ℕ) where
  more : (i : ℕ) → sets buffer at (ones (suc i) f) ≡ set (sets buffer at (ones i f)) (at + i) (f i)
  unfolding flat
  more i =
      sets_append buffer at (ones i f) (f i ∷ [])
      ∙ ap (λ (j : ℕ). set (sets buffer at (ones i f)) (at + j) (f i)) (ones_length f i)

  -- The loop; v is the number that the code has for the i-th.
  pub one_set : (now : List ℤ) (i : ℕ) (v : ℤ) → mag v < 2 ^ 63 → v ≡ f i → now ≡ sets buffer at (ones i f)
      → set now (at + i) (back v) ≡ sets buffer at (ones (i + 1) f)
  one_set now i v small e h = rw (add-one i, more i, h, kept v small, e)

  -- What each place then holds.
  pub set_at : (count i : ℕ) → i < count → at + count ≤ length buffer → get_or (sets buffer at (ones count f)) (at + i) (pos 0) ≡ f i
  set_at zero i l room = absurd (not-suc-le-zero l)
  set_at (suc count) i l room =
      let n = length-sets buffer at (ones count f) in
      rw (more count)
      (⊎_elim
      (λ (e : i ≡ count). rw e (get_or-set_same (sets buffer at (ones count f)) (at + count) (f count) (pos 0) (omega arith)))
      (λ (h : i < count).
      get_or-set_other (sets buffer at (ones count f)) (at + count) (at + i) (f count) (pos 0) (λ e. omega arith)
      ∙ set_at count i h (omega arith))
      (eq-or-lt_of_le (le_of_suc-le-suc l)))

  pub set_beside : (count k : ℕ) → (at ≤ k → at + count ≤ k) → get_or (sets buffer at (ones count f)) k (pos 0) ≡ get_or buffer k (pos 0)
  unfolding flat
  set_beside zero k h = refl
  set_beside (suc count) k h =
      rw (more count)
      (get_or-set_other (sets buffer at (ones count f)) (at + count) k (f count) (pos 0) (λ e. omega (arith, h (omega arith)))
      ∙ set_beside count k (λ l. omega (arith, h l)))
