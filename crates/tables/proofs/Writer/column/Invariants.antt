-- `tables::Writer::column` meets its contract: turn j writes the word at j. Rests on Columns.
use Rattle.std.proofs.Common.{◌-◌}
use Rattle.plans.specs.Outline.{inner, counted_to}
use Rattle.rows.specs.Table.{word_of}
use Rattle.tables.proofs.Columns.{Spacing}
use Rattle.tables.proofs.Writer.column.Given as goal

abbrev pub invariant-loop-q : goal.invariant-loop-q
invariant-loop-q l =
    Spacing (λ j. word_of l.source l.fn.word (counted_to inner j l.self.k)) l.size l.at l.end l.initial.out l.out l.q l.j

abbrev pub decreases-loop-q : goal.decreases-loop-q
decreases-loop-q l = l.end - l.q
