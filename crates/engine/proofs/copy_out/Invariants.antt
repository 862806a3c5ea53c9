-- `engine::copy_out` meets its contract: before place i, the cells before it are copied. Rests on intake's Copied.
use mathlib.Core.Path.{◌≡◌}
use Prim.Native.Nat.{◌+◌}
use lib.ListN.{length}
use lib.Seq.{sets}
use Rattle.machine.specs.Effect.{cell_at}
use Rattle.intake.proofs.Copied.{ones}
use Rattle.engine.proofs.copy_out.Given as goal

abbrev pub invariant-loop-i : goal.invariant-loop-i
invariant-loop-i l =
    (length l.out ≡ length l.initial.out) × (l.out ≡ sets l.initial.out 0 (ones l.i (λ j. cell_at l.cells (l.span.first + j))))
