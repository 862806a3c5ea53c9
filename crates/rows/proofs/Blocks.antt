-- Loops of equally long blocks are as long as their count says; the first turn taken off. Rests on the definitions alone.
use mathlib.Core.Path.{◌≡◌, sym, ap, ◌∙◌}
use mathlib.Core.List.{List, ◌++◌, append_assoc, append-nil}
use Prim.Native.Nat.{ℕ, zero, suc, ◌*◌}
use native.Mathlib.Nat.{zero-mul, suc-mul}
use native.Mathlib.Omega.{arith}
use lib.ListN.{length, length-append}
use Rattle.plans.specs.Blocks.{flat}

pub flat_length : {X : Type 0} (size : ℕ) (f : ℕ → List X) → ((j : ℕ) → length (f j) ≡ size)
    → (count : ℕ) → length (flat count f) ≡ count * size
unfolding flat
flat_length size f same zero = sym (zero-mul size)
flat_length size f same (suc count) =
    omega (arith, length-append (flat count f) (f count), flat_length size f same count, same count, suc-mul count size)

-- The first turn first.
pub flat_front : {X : Type 0} (f : ℕ → List X) (count : ℕ) → flat (suc count) f ≡ f 0 ++ flat count (λ j. f (suc j))
unfolding flat
flat_front f zero = sym (append-nil (f 0))
flat_front f (suc count) =
    ap (λ l. l ++ f (suc count)) (flat_front f count) ∙ append_assoc (f 0) (flat count (λ j. f (suc j))) (f (suc count))
