-- `intake::lay_strip` meets its contract: before cell i of the strip, the numbers of the cells before it are laid. Rests on Laid.
use mathlib.Core.Path.{◌≡◌}
use Prim.Native.Nat.{◌+◌}
use lib.ListN.{length, get_or}
use lib.Seq.{sets}
use Rattle.intake.specs.Intake.{part_of}
use Rattle.intake.proofs.Copied.{ones}
use Rattle.intake.proofs.lay_strip.Given as goal

abbrev pub invariant-loop-i : goal.invariant-loop-i
invariant-loop-i l =
    let s = l.strip in
    (length l.cells ≡ length l.initial.cells)
    × (l.cells ≡ sets l.initial.cells s.at (ones l.i (λ j. part_of s.part (get_or l.words (s.word + j) 0))))
