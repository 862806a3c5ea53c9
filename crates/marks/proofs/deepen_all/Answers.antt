-- `marks::deepen_all` meets its contract: before word k, the depths so far and the marks to undo. Rests on Marks.
use native.Mathlib.Omega.{arith}
use Rattle.deepening.proofs.Deepening.{can, bounded}
use Rattle.marks.proofs.Marks.{none_yet, one_more, all_marked}
use Rattle.marks.proofs.deepen_all.Goals as goal

pub loop-k-init : goal.loop-k-init
loop-k-init c = none_yet _ _ _

pub deepen-requires : goal.deepen-requires
deepen-requires c =
    let i = c.loop-k.invariant in
    let l = c.loop-k-test.true in
    (l, omega (arith, i.long, c.requires.2), c.requires.1, rw i.count (can _ c.args.words.now c.requires.0 _ l), bounded i.deepening l c.requires.1)

pub loop-k-preserved : goal.loop-k-preserved
loop-k-preserved c =
    rw c.max-rounds.ensures
    (one_more c.loop-k.invariant c.loop-k-test.true c.deepen.auto.cells c.deepen.auto.log _ c.deepen.ensures)

pub returns : goal.returns
returns c = all_marked c.loop-k.invariant c.loop-k-test.false
