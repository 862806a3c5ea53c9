-- What holds of every element of a list holds of the one at a place. Rests on the toolchain's library alone.
use mathlib.Core.List.{List, [], ◌∷◌}
use Prim.Native.Nat.{ℕ, zero, suc, ◌<◌}
use native.Mathlib.Nat.{not-suc-le-zero, le_of_suc-le-suc}
use lib.ListN.{length, get_or}
use Rattle.machine.specs.Instruction.{All}

pub all_at : {X : Type 0} (P : X → Type 0) (xs : List X) (i : ℕ) (none : X) → All P xs → i < length xs → P (get_or xs i none)
all_at P [] i none a h = absurd (not-suc-le-zero h)
all_at P (x ∷ xs) zero none a h = a.0
all_at P (x ∷ xs) (suc i) none a h = all_at P xs i none a.1 (le_of_suc-le-suc h)
