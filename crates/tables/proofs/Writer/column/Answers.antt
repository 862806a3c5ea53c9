-- `tables::Writer::column` meets its contract: turn j writes the word at j. Rests on Columns.
use native.Mathlib.Nat.{zero-mul}
use native.Mathlib.Omega.{arith}
use Rattle.rows.specs.Table.{word_of}
use Rattle.tables.proofs.Columns.{turn_at, spaced_on, spaced}
use Rattle.tables.proofs.Writer.column.Goals as goal

pub first_of-first-requires : goal.first_of-first-requires
unfolding word_of
first_of-first-requires c = omega (arith, c.requires.small 0 (omega (arith, c.requires.begins, zero-mul c.args.size)))

pub along-requires : goal.along-requires
unfolding word_of
along-requires c =
    rw c.first_of-first.ensures (c.requires.small _ (turn_at _ _ _ _ c.requires.some _ c.loop-q.invariant c.loop-q-test.true))

pub loop-q-preserved : goal.loop-q-preserved
unfolding word_of
loop-q-preserved c =
    spaced_on _ _ _ _ c.requires.some _ c.loop-q.invariant c.loop-q-test.true c.requires.fits _
    (rw c.first_of-first.ensures at c.along.ensures)

pub returns : goal.returns
returns c = spaced _ _ _ _ c.requires.some _ c.loop-q.invariant c.loop-q-test.false
