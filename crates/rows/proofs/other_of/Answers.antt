-- `rows::other_of` meets its contract: by the cases of b. Rests on Coded.
use Rattle.rows.proofs.Coded.{other_far, other_none}
use Rattle.rows.proofs.other_of.Goals as goal

pub returns-then-b-eq-FROM_SOURCE : goal.returns-then-b-eq-FROM_SOURCE
returns-then-b-eq-FROM_SOURCE c = other_far _ c.field-b.ensures.0 c.if-b-eq-FROM_SOURCE.true

pub returns-else-b-eq-FROM_SOURCE : goal.returns-else-b-eq-FROM_SOURCE
returns-else-b-eq-FROM_SOURCE c = other_none _ c.field-b.ensures.0 c.if-b-eq-FROM_SOURCE.false
