-- `rounds::method2` meets its contract. Rests on the figures' definition.
use Rattle.plans.specs.Plan.{rounds_of_plan}
use Rattle.rounds.proofs.method2.Goals as goal

pub returns : goal.returns
unfolding rounds_of_plan
returns c = rw c.requires
