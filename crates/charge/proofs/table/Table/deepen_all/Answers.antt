-- `charge::table::Table::deepen_all` meets its contract: before each word, the depths so far. Rests on deepening's Deepening.
use borrow.Author.Rules.{rules}
use Rattle.deepening.proofs.Deepening.{can, start, next, bounded, done}
use Rattle.charge.proofs.table.Table.deepen_all.Goals as goal

pub loop-word-init : goal.loop-word-init
loop-word-init g c = start _ _ c.requires.2

pub deepen-requires : goal.deepen-requires
deepen-requires g c =
    let i = c.loop-word.invariant in
    let l = c.loop-word-test.true in
    (search rules, (can _ c.args.words.now c.requires.0 _ l, bounded i l c.requires.1))

pub loop-word-preserved : goal.loop-word-preserved
loop-word-preserved g c = rw c.max-rounds.ensures (next c.loop-word.invariant c.loop-word-test.true _ c.deepen.ensures)

pub returns : goal.returns
returns g c = done c.loop-word.invariant c.loop-word-test.false
