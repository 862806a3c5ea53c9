-- `tables::repeat` meets its contract. Rests on Copied.
use mathlib.Core.List.{List}
use Prim.Native.Nat.{ℕ, ◌-◌}
use lib.ListN.{take}
use Rattle.tables.specs.Writing.{Wrote}
use Rattle.tables.proofs.Copied.{copies}
use Rattle.tables.proofs.repeat.Given as goal

abbrev pub invariant-loop-i : goal.invariant-loop-i
invariant-loop-i l =
    (ws before : List ℕ) → Wrote ws before l.initial.out l.at l.mid → Wrote (take (l.i - l.at) (copies ws l.count)) before l.out l.at l.i
