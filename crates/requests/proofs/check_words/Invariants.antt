-- `requests::check_words` meets its contract: before a word, what is left meets the refusal that all of them meet. Rests on Words.
use Rattle.limits.proofs.Words.{Passed}
use Rattle.requests.proofs.check_words.Given as goal

abbrev pub invariant-loop-place : goal.invariant-loop-place
invariant-loop-place l = Passed l.h.header l.words l.before l.place
