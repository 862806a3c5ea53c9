-- `rows::Places::set` meets its contract: its numbers are those of the row. Rests on Coded.
use mathlib.Core.Path.{◌∙◌}
use Rattle.rows.proofs.Coded.{same_row, same_set}
use Rattle.rows.proofs.Places.set.Goals as goal

pub returns : goal.returns
returns c =
    same_row (c.join.ensures ∙ same_set c.place.ensures.0 c.number_of.ensures.0)
    c.set_step.ensures
    c.set_step-2.ensures
    c.set_step-3.ensures
    c.other_of.ensures
