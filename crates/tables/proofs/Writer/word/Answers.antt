-- `tables::Writer::word` meets its contract. Rests on the definitions alone.
use native.Mathlib.Omega.{arith}
use Rattle.rows.specs.Table.{word_of}
use Rattle.tables.proofs.Writer.word.Goals as goal

pub first_of-first-requires : goal.first_of-first-requires
unfolding word_of
first_of-first-requires c = omega (arith, c.requires)

pub along-requires : goal.along-requires
unfolding word_of
along-requires c = rw c.first_of-first.ensures c.requires

pub returns : goal.returns
unfolding word_of
returns c = rw c.first_of-first.ensures at c.along.ensures
