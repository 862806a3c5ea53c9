-- `rows::number_of` meets its contract: by the cases of b. Rests on Coded.
use mathlib.Core.Path.{◌∙◌}
use native.Mathlib.Omega.{arith}
use Rattle.rows.proofs.Coded.{number_listed, number_none}
use Rattle.rows.proofs.number_of.Goals as goal

pub returns-in-0 : goal.returns-in-0
returns-in-0 c = (
  c.field.ensures.0 ∙ number_listed _ c.field-b.ensures.0 0 c.in-0.is,
  omega arith,
)

pub returns-in-1 : goal.returns-in-1
returns-in-1 c = (number_listed _ c.field-b.ensures.0 1 c.in-1.is, omega arith)

pub returns-in-2 : goal.returns-in-2
returns-in-2 c = (number_listed _ c.field-b.ensures.0 2 c.in-2.is, omega arith)

pub returns-in_default : goal.returns-in_default
returns-in_default c = (number_none _ c.field-b.ensures.0 (omega arith), omega arith)
