-- `ops::move_if` meets its contract: Performed has a law for each way out. Rests on it.
use Rattle.machine.proofs.Performed.{stayed, moved}
use Rattle.ops.proofs.move_if.Goals as goal

pub returns-then-unmoved : goal.returns-then-unmoved
returns-then-unmoved c = stayed _ _ _ _ c.test-1.given c.if-unmoved.true

pub returns : goal.returns
returns c = moved _ _ _ _ c.moved-1.given c.if-unmoved.false
