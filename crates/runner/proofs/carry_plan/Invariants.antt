-- `runner::carry_plan` meets its contract: before each word, what is left of the plan is still to carry out. Rests on Turn.
use Prim.Native.Nat.{◌+◌}
use Rattle.runner.proofs.Turn.{Turn}
use Rattle.runner.proofs.carry_plan.Given as goal

abbrev pub invariant-words : goal.invariant-words
invariant-words l = Turn l.plan l.initial.cells l.initial.log l.cells l.log l.at (l.word-index + 1)
