-- `marks::put_back` meets its contract. Rests on deepening's Words.
use mathlib.Core.Path.{sym, ap, ◌∙◌}
use borrow.Author.Tests.{eq-eqb, ne_eqb}
use Rattle.machine.proofs.Admitted.{op_below}
use Rattle.machine.proofs.Parted.{admitted_fields}
use Rattle.machine.proofs.Tested.{kept, signed_is}
use Rattle.ops.specs.Op.{code}
use Rattle.ops.specs.declared.Op.TheVariants.{Open}
use Rattle.ops.proofs.Named.{other}
use Rattle.deepening.proofs.Words.{d_there}
use Rattle.marks.specs.Place.{put_back}
use Rattle.marks.proofs.put_back.Goals as goal

pub of-w-requires : goal.of-w-requires
of-w-requires c = op_below _ _ _ _ _ c.requires

pub returns-in-Open : goal.returns-in-Open
unfolding put_back
returns-in-Open c = rw (eq-eqb _ 7 (c.of-w.ensures.op_is ∙ ap code c.in-Open.is))

pub bounds-cells-w : goal.bounds-cells-w
bounds-cells-w c =
    (d_there _ _ _ _ _ (admitted_fields c.of-w.ensures _ c.requires) (other _ Open c.in_default.not-Open)).1

pub returns : goal.returns
unfolding put_back
returns c =
    let f = c.of-w.ensures in
    rw
    (kept _ c.cast_signed.type_inv, c.cast_signed.ensures, signed_is, ne_eqb _ 7 (λ q. other _ Open c.in_default.not-Open (sym f.op_is ∙ q)), f.d_is)
