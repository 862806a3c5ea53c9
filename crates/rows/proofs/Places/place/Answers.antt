-- `rows::Places::place` meets its contract: past its end env is read as 0. Rests on Coded.
use native.Mathlib.Omega.{arith}
use Rattle.rows.proofs.Coded.{place_in, place_past}
use Rattle.rows.proofs.Places.place.Goals as goal

pub returns-then-k-self : goal.returns-then-k-self
returns-then-k-self c = (
  place_in c.args.self.now.env.now _ _ c.field-k.ensures.0 c.field-offset.ensures.0,
  omega (arith, c.args.self.now.near c.field-k.result),
)

pub returns : goal.returns
returns c = (
  place_past c.args.self.now.env.now _ _ c.field-k.ensures.0 c.field-offset.ensures.0 c.if-k-self.false,
  omega arith,
)
