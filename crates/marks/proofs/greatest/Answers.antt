-- `marks::greatest` meets its contract: what was marked is put back. Rests on the definitions alone.
use mathlib.Core.Path.{◌∙◌}
use native.Mathlib.Omega.{arith}
use Rattle.marks.proofs.greatest.Goals as goal

pub restore-requires : goal.restore-requires
restore-requires c = (rw c.deepen_all-rounds.auto.cells c.requires.0, omega (arith, c.deepen_all-rounds.auto.log, c.requires.2))

pub returns : goal.returns
returns c =
    let e = c.deepen_all-rounds.ensures in
    record { charged = e.0; cells_stay = c.restore.ensures ∙ e.1; log_beyond = e.2 }
