-- The measures and the loops of the cycle of calls of tables::write: rows, a loop, and the two kinds whose bodies are rows again. A body is
-- smaller than the rows that it stands in, so the measures are three times the number of rows, and 1 more for a kind, 2 more for a loop.
-- Rests on Passed and Looped.
use Rattle.std.proofs.Common.{◌+◌, ◌*◌, ◌≤◌, length}
use Rattle.plans.specs.Blocks.{flat}
use Rattle.rows.specs.declared.Over.TheVariants.{Counter}
use Rattle.tables.specs.Writing.{block, Wrote}
use Rattle.tables.proofs.Passed.{Passed}
use Rattle.tables.proofs.Looped.{turns}
use Rattle.tables.proofs.Writer.+again_each_looped_words.Given as goal

abbrev pub decreases-again : goal.decreases-again
decreases-again l = 3 * length l.rows.now + 1

abbrev pub decreases-each : goal.decreases-each
decreases-each l = 3 * length l.rows.now + 1

abbrev pub decreases-looped : goal.decreases-looped
decreases-looped l = 3 * length l.rows.now + 2

abbrev pub decreases-words : goal.decreases-words
decreases-words l = 3 * length l.rows.now

abbrev pub invariant-each-loop-j : goal.invariant-each-loop-j
invariant-each-loop-j l = Wrote (flat l.j (turns l.self.source l.rows l.self.k (Counter l.level) l.turns)) l.initial.out l.out l.at l.next

abbrev pub invariant-words-loop-rest : goal.invariant-words-loop-rest
invariant-words-loop-rest l =
    (length l.rest ≤ length l.rows)
    × Passed l.self.source l.self.k (block l.self.source l.rows l.self.k) l.initial.out l.out l.at l.next l.rest

abbrev pub decreases-words-loop-rest : goal.decreases-words-loop-rest
decreases-words-loop-rest l = length l.rest
