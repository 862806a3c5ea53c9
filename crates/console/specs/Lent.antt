-- What the desk lends to a run. Rests on plans' Plan and the outcomes of runs.
use Rattle.plans.specs.Plan.{by_kind}
use Rattle.demands.specs.Run.{Lent}
use Rattle.console.specs.declared.Desk.{Desk}

abbrev pub lent_by : Desk → Lent
lent_by d = record { cells = d.cells; log = d.log; results = by_kind d.distances d.parents d.route }
