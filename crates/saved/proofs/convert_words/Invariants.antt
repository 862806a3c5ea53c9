-- `saved::convert_words` meets its contract: before a word, the words before it are converted, and the rest is still to be. Rests on Buffer.
use Rattle.saved.proofs.Buffer.{Halfway}
use Rattle.saved.proofs.convert_words.Given as goal

abbrev pub invariant-loop-word : goal.invariant-loop-word
invariant-loop-word l = Halfway l.initial.saved l.saved l.word-index
