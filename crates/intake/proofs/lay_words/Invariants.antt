-- `intake::lay_words` meets its contract: before a strip, those from it on are still to lay. Rests on Laid.
use Rattle.intake.proofs.Laid.{Laying}
use Rattle.intake.proofs.lay_words.Given as goal

abbrev pub invariant-loop-strip : goal.invariant-loop-strip
invariant-loop-strip l = Laying l.words l.strip-items l.initial.cells l.cells l.strip-index
