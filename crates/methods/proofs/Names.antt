-- Names of cells, a region and a place in it: two names with different regions, written out, are told apart by computation.
-- A bank laid out in regions that begin at given places. Rests on banks.
use mathlib.Core.Path.{◌≡◌, refl, sym, ap, ap₂, ◌∙◌}
use mathlib.Core.Bool.{Bool, ◌&&◌, true≢false, and-eq-true_iff}
use mathlib.Core.List.{List, [], ◌∷◌}
use Prim.Native.Nat.{ℕ, zero, suc, ◌+◌, ◌<◌, ◌≤◌}
use native.Mathlib.Omega.{arith}
use borrow.Author.Tests.{eq-eqb, ne_eqb, eqb-true}
use lib.Dec.{eqb}
use lib.IntN.{ℤ}
use lib.ListN.{get_or}
use Rattle.lists.proofs.Test.{by_test}
use Rattle.plans.specs.Regions.{address, cell}
use Rattle.methods.proofs.Banks.{Layout}

abbrev pub Name : Type 0
Name = ℕ × ℕ

abbrev pub same : Name → Name → Bool
same a b = eqb a.0 b.0 && eqb a.1 b.1

-- The naming by names.
abbrev pub pair : (region place : ℕ) → Name
pair r p = (r, p)

abbrev pub Store : Type 0
Store = Name → ℤ

-- ---- regions that begin at `starts`, in a bank of `count` cells

-- Where what follows begins: the next region, or what lies beyond the bank's needed cells.
abbrev pub next : (starts : List ℕ) (count : ℕ) → ℕ
next [] count = count
next (s ∷ ss) count = s

abbrev pub Ascending : (starts : List ℕ) (count : ℕ) → Type 0
Ascending [] count = Unit {0}
Ascending (s ∷ ss) count = (s ≤ next ss count) × Ascending ss count

abbrev pub InRegion : (starts : List ℕ) (count region place : ℕ) → Type 0
InRegion [] count r i = ⊥
InRegion (s ∷ ss) count zero i = s + i < next ss count
InRegion (s ∷ ss) count (suc r) i = InRegion ss count r i

next_most : (z : List ℕ) (count : ℕ) → Ascending z count → next z count ≤ count
next_most [] count up = omega arith
next_most (s ∷ ss) count up = omega (arith, next_most ss count up.1)

from_next : (z : List ℕ) (count r i : ℕ) → Ascending z count → InRegion z count r i → next z count ≤ get_or z r 0
from_next [] count r i up h = absurd h
from_next (s ∷ ss) count zero i up h = omega arith
from_next (s ∷ ss) count (suc r) i up h = omega (arith, from_next ss count r i up.1 h)

pub in_region_below : (z : List ℕ) (count r i : ℕ) → Ascending z count → InRegion z count r i → address z r i < count
in_region_below [] count r i up h = absurd h
in_region_below (s ∷ ss) count zero i up h = omega (arith, next_most ss count up.1)
in_region_below (s ∷ ss) count (suc r) i up h = in_region_below ss count r i up.1 h

one_place : (z : List ℕ) (count r q i j : ℕ) → Ascending z count → InRegion z count r i → InRegion z count q j
    → address z r i ≡ address z q j → (r ≡ q) × (i ≡ j)
one_place [] count r q i j up h k e = absurd h
one_place (s ∷ ss) count zero zero i j up h k e = (refl, omega arith)
one_place (s ∷ ss) count zero (suc q) i j up h k e = absurd (omega (arith, from_next ss count q j up.1 k))
one_place (s ∷ ss) count (suc r) zero i j up h k e = absurd (omega (arith, from_next ss count r i up.1 h))
one_place (s ∷ ss) count (suc r) (suc q) i j up h k e =
    let (a, b) = one_place ss count r q i j up.1 h k e in (ap suc a, b)

module _ (z : List ℕ) (count : ℕ) (up : Ascending z count) where
  pub apart : (a b : Name) → InRegion z count a.0 a.1 → InRegion z count b.0 b.1 → eqb (cell z a) (cell z b) ≡ same a b
  apart a b h k =
      by_test (same a b)
      (λ e.
      let (r, i) = (and-eq-true_iff (eqb a.0 b.0) (eqb a.1 b.1)).0 e in
      let r = eqb-true _ _ r in
      let i = eqb-true _ _ i in
      rw e (eq-eqb _ _ (ap₂ (λ (r i : ℕ). address z r i) r i)))
      (λ e.
      rw e
      (ne_eqb _ _
      (λ q.
      let (r, i) = one_place z count a.0 b.0 a.1 b.1 up h k q in
      true≢false (sym (ap₂ ◌&&◌ (eq-eqb _ _ r) (eq-eqb _ _ i)) ∙ e))))

  abbrev pub regions : Layout Name same
  regions =
      record {
        size = count;
        Good = λ a. InRegion z count a.0 a.1;
        place = cell z;
        below = λ a h. in_region_below z count a.0 a.1 up h;
        apart = apart;
      }
