-- `charge::table::among` meets its contract: a fresh table's depths are 0. Rests on Fitting.
use native.Mathlib.Omega.{arith}
use Rattle.charge.proofs.Fitting.{fresh}
use Rattle.charge.proofs.table.among.Goals as goal

pub deepen_all-requires : goal.deepen_all-requires
deepen_all-requires g c = (omega (arith, c.requires.0), (c.requires.1, c.requires.2, fresh g.row.CELLS))
