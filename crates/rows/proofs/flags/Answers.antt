-- `rows::flags` meets its contract: the mask has one bit of each operand. Rests on Coded.
use Rattle.rows.proofs.Coded.{flags_are, flags_small}
use Rattle.rows.proofs.flags.Goals as goal

pub returns : goal.returns
returns c = (flags_are _ _, flags_small c.args.code c.args.bit)
