-- `runner::first_bad` meets its contract: the lowest bad place from `place` on is that of the plan. Rests on Lowest.
use Rattle.runner.proofs.Lowest.{Seeking}
use Rattle.runner.proofs.first_bad.Given as goal

abbrev pub invariant-loop-place : goal.invariant-loop-place
invariant-loop-place l = Seeking l.plan l.count l.place
