-- `input::to_words` meets its contract: before word k, what is left of the words is still to write.
-- Rests on Handed and lists' Filled.
use Rattle.lists.proofs.Filled.{Filling}
use Rattle.printing.specs.Bytes.{whole_words}
use Rattle.input.proofs.to_words.Given as goal

abbrev pub invariant-loop-k : goal.invariant-loop-k
invariant-loop-k l = Filling (whole_words l.bytes) l.initial.word-items l.word-items l.k
