-- `rows::Places::set_step` meets its contract: the cell and the number move by themselves. Rests on Coded.
use mathlib.Core.Path.{◌∙◌}
use Rattle.rows.proofs.Coded.{set_step_is}
use Rattle.rows.proofs.Places.set_step.Goals as goal

pub returns : goal.returns
returns c =
    c.join.ensures
    ∙ set_step_is _ _ _ c.field-once.ensures.0 c.field-rows.ensures.0 c.field.ensures.0
