-- `charge::depth_of` meets its contract. Rests on Fitting.
use native.Mathlib.Omega.{arith}
use mathlib.Core.Path.{sym, subst, ◌∙◌}
use lib.Dec.{T}
use lib.ListN.{length}
use Rattle.charge.proofs.Fitting.{enough_admits, wider}
use Rattle.charge.proofs.depth_of.Goals as goal
use Rattle.charge.proofs.depth_of.Goals.{then-cells-le-MANY-via-then-cells-le-MANY, then-cells-le-MANY-via-else-cells-le-MANY+then-fits}

pub among-requires : goal.among-requires
among-requires c =
    (omega arith, wider (length c.args.cells.now) 512 c.if-cells-le-FEW.true c.args.words.now c.requires.0, c.requires.1)

pub among-requires-then-cells-le-MANY : goal.among-requires-then-cells-le-MANY
among-requires-then-cells-le-MANY c = (
  omega arith,
  elim c.then-cells-le-MANY.branch [
    | then-cells-le-MANY-via-then-cells-le-MANY w ↦
        wider (length c.args.cells.now) 16384 w.if-cells-le-MANY.true c.args.words.now c.requires.0
    | then-cells-le-MANY-via-else-cells-le-MANY+then-fits w ↦
        enough_admits 16384 _ (subst T (sym (sym w.fits.ensures ∙ w.if-fits.true)) tt)
  ],
  c.requires.1,
)
