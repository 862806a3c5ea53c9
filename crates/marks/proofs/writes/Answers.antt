-- `marks::writes` meets its contract. Rests on the definitions alone.
use mathlib.Core.Path.{◌∙◌, sym}
use Rattle.marks.proofs.writes.Goals as goal

pub returns-then-opens : goal.returns-then-opens
returns-then-opens c = rw (sym c.opens.ensures ∙ c.if-opens.true)

pub returns : goal.returns
returns c = rw (sym c.opens.ensures ∙ c.if-opens.false, c.split-w.ensures.d_is)
