-- `rounds::method1` meets its contract. Rests on the figures' definition.
use borrow.Author.Tests.{eq-eqb, ne_eqb}
use Rattle.plans.specs.Plan.{rounds_of_plan}
use Rattle.rounds.proofs.method1.Goals as goal

pub returns-then-m-eq0 : goal.returns-then-m-eq0
unfolding rounds_of_plan
returns-then-m-eq0 c = rw (c.requires, eq-eqb _ 0 c.if-m-eq0.true)

pub returns : goal.returns
unfolding rounds_of_plan
returns c = rw (c.requires, ne_eqb _ 0 c.if-m-eq0.false)
