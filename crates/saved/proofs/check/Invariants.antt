-- `saved::check` meets its contract: before a place, what is left meets the refusal that all of them meet. Rests on Buffer.
use Rattle.saved.proofs.Buffer.{Passed}
use Rattle.saved.proofs.check.Given as goal

abbrev pub invariant-loop-place : goal.invariant-loop-place
invariant-loop-place l = Passed l.saved l.place
