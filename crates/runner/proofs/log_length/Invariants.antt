-- `runner::log_length` meets its contract: the count so far and the published words from each word on. Rests on Sized.
use Prim.Native.Nat.{◌+◌}
use Rattle.runner.proofs.Sized.{Counting}
use Rattle.runner.proofs.log_length.Given as goal

abbrev pub invariant-loop-word : goal.invariant-loop-word
invariant-loop-word l = Counting l.plan l.size (l.word-index + 1)
