-- `tables::Writer::run` meets its contract: row by row. Rests on Columns.
use Rattle.std.proofs.Common.{length}
use Rattle.plans.specs.Outline.{inner, counted_to}
use Rattle.rows.specs.Table.{word_of}
use Rattle.tables.specs.Writing.{moving_at}
use Rattle.tables.proofs.Columns.{Striped}
use Rattle.tables.proofs.Writer.run.Given as goal

abbrev pub invariant-loop-i : goal.invariant-loop-i
invariant-loop-i l =
    Striped (λ c j. word_of l.self.source (moving_at l.rows c) (counted_to inner j l.self.k)) (length l.rows) l.turns l.at
    l.initial.out l.out l.i
