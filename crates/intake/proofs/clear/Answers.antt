-- `intake::clear` meets its contract. Rests on Copied.
use lib.Seq.{length-take-le}
use Rattle.intake.proofs.Copied.{filled}
use Rattle.intake.proofs.clear.Goals as goal

pub returns : goal.returns
returns c = filled _ _ _ _ _ (length-take-le c.args.count c.args.cells.now c.requires) (c.fill.ensures.after (λ y h. h))
