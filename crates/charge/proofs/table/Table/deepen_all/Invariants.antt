-- `charge::table::Table::deepen_all` meets its contract: before each word, the depths so far. Rests on deepening's Deepening.
use Rattle.charge.specs.Table.{depths_in}
use Rattle.deepening.proofs.Deepening.{Deepening}
use Rattle.charge.proofs.table.Table.deepen_all.Given as goal

abbrev pub invariant-loop-word : goal.invariant-loop-word
invariant-loop-word g l = Deepening l.words (depths_in l.self.depths) l.rounds l.word-index
