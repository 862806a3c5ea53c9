-- Two texts compared: they have the same bytes exactly when they are equal; and the loop that compares them byte by byte.
-- Rests on lists' Slices.
use mathlib.Core.Path.{◌≡◌, refl, sym, ap}
use mathlib.Core.Logic.{◌↔◌, ◌≢◌}
use mathlib.Core.Bool.{true, false, ◌&&◌, true≢false, and-eq-true_iff, not-eq-not}
use mathlib.Core.List.{List, [], ◌∷◌}
use Prim.Native.Nat.{ℕ}
use borrow.Author.Tests.{eq-eqb, eqb-true}
use lib.Dec.{eqb}
use lib.Pointwise.{pointwise}
use Rattle.text.specs.Text.{same_bytes}

-- ---- the definition is equality

itself : (xs : List ℕ) → same_bytes xs xs ≡ true
unfolding same_bytes
itself [] = refl
itself (x ∷ xs) = rw (eq-eqb x x refl) (itself xs)

equal : (xs ys : List ℕ) → same_bytes xs ys ≡ true → xs ≡ ys
unfolding same_bytes
equal [] [] e = refl
equal [] (y ∷ ys) e = absurd (true≢false (sym e))
equal (x ∷ xs) [] e = absurd (true≢false (sym e))
equal (x ∷ xs) (y ∷ ys) e =
    let (head, tail) = (and-eq-true_iff (eqb x y) (same_bytes xs ys)).0 e in
    rw (eqb-true x y head, equal xs ys tail)

pub same_bytes_are : (xs ys : List ℕ) → (same_bytes xs ys ≡ true) ↔ (xs ≡ ys)
same_bytes_are xs ys = (equal xs ys, λ e. rw e (itself ys))

pub different : (xs ys : List ℕ) → xs ≢ ys → false ≡ same_bytes xs ys
different xs ys n = sym ((not-eq-not {a = same_bytes xs ys} {b = false}).0 (λ e. n (equal xs ys e)))

-- ---- what `==` compares

pub compared : (xs ys : List ℕ) → pointwise eqb xs ys ≡ same_bytes xs ys
unfolding same_bytes
compared [] [] = refl
compared [] (y ∷ ys) = refl
compared (x ∷ xs) [] = refl
compared (x ∷ xs) (y ∷ ys) = ap (eqb x y &&◌) (compared xs ys)
