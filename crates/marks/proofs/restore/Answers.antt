-- `marks::restore` meets its contract: what is left to put back gives the cells. Rests on Marks.
use mathlib.Core.Path.{sym, ap, ◌∙◌}
use native.Mathlib.Omega.{arith}
use lib.ListN.{length}
use Rattle.marks.specs.Place.{undone}
use Rattle.deepening.proofs.Deepening.{can}
use Rattle.marks.proofs.Marks.{undone_none, undone_last, put_back_long}
use Rattle.marks.proofs.restore.Goals as goal

pub put_back-requires : goal.put_back-requires
put_back-requires c = rw c.loop-k.invariant.0 (can _ c.args.words.now c.requires.0 _ (omega arith))

pub loop-k-preserved : goal.loop-k-preserved
loop-k-preserved c =
    let i = c.loop-k.invariant in
    let e = c.put_back.ensures in
    (ap length e ∙ put_back_long _ _ _ ∙ i.0, ap (undone _ _ _) e ∙ sym (undone_last _ _ _ _ c.loop-k-test.true) ∙ i.1)

pub returns : goal.returns
returns c = sym (undone_none _ _ _ _ (omega arith)) ∙ c.loop-k.invariant.1
