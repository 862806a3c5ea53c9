-- `runner::carry_words` meets its contract: before each word, what is left of the words is still to carry out. Rests on Turn.
use Prim.Native.Nat.{◌+◌}
use Rattle.runner.proofs.Turn.{Carrying}
use Rattle.runner.proofs.carry_words.Given as goal

abbrev pub invariant-loop-word : goal.invariant-loop-word
invariant-loop-word l = Carrying l.words l.initial.cells l.cells (l.word-index + 1)
