-- `saved::convert_word` meets its contract: a law for each way out. Rests on Words.
use Rattle.saved.proofs.Words.{mark_becomes, product_fits, product_becomes}
use Rattle.saved.proofs.convert_word.Goals as goal

pub returns-then-word-eq-OLD_FAR : goal.returns-then-word-eq-OLD_FAR
returns-then-word-eq-OLD_FAR c = mark_becomes _ c.ranges.word c.if-word-eq-OLD_FAR.true

pub overflow_mul-result : goal.overflow_mul-result
overflow_mul-result c = product_fits _ c.ranges.word c.requires c.if-word-eq-OLD_FAR.false

pub returns : goal.returns
returns c = product_becomes _ c.ranges.word c.requires c.if-word-eq-OLD_FAR.false
