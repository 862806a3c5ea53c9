-- `saved::may_convert` meets its contract: a law for each way out. Rests on Words.
use Rattle.saved.proofs.Words.{mark_converts, too_low, not_low}
use Rattle.saved.proofs.may_convert.Goals as goal

pub returns-then-word-eq-OLD_FAR : goal.returns-then-word-eq-OLD_FAR
returns-then-word-eq-OLD_FAR c = mark_converts _ c.ranges.word c.if-word-eq-OLD_FAR.true

pub returns-then-word : goal.returns-then-word
returns-then-word c = too_low _ c.ranges.word c.if-word-eq-OLD_FAR.false c.if-word.true

pub returns : goal.returns
returns c = not_low _ c.ranges.word c.if-word-eq-OLD_FAR.false c.if-word.false
