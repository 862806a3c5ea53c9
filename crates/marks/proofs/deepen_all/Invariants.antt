-- `marks::deepen_all` meets its contract: before word k, the depths so far and the marks to undo. Rests on Marks.
use Rattle.marks.proofs.Marks.{Marking}
use Rattle.marks.proofs.deepen_all.Given as goal

abbrev pub invariant-loop-k : goal.invariant-loop-k
invariant-loop-k l = Marking l.words l.initial.cells l.initial.log l.cells l.log l.rounds l.k
