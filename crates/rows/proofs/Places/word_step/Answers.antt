-- `rows::Places::word_step` meets its contract: the flags of three operands are added, and multiplied, at once. Rests on Coded.
use Rattle.rows.proofs.Coded.{word_step_is}
use Rattle.rows.proofs.Places.word_step.Goals as goal

pub returns : goal.returns
returns c = word_step_is _ _ _ c.flags.ensures.0 c.flags-2.ensures.0
