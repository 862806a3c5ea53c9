-- The proof of the cycle of calls of tables::write. Rests on Passed and Looped.
use mathlib.Core.Path.{sym}
use lib.Seq.{length-take-le}
use native.Mathlib.Nat.{pos_of_ne-zero}
use native.Mathlib.Omega.{arith}
use Rattle.rows.specs.declared.Over.TheVariants.{Counter}
use Rattle.tables.specs.Writing.{looping}
use Rattle.tables.proofs.Written.{begin}
use Rattle.tables.proofs.Passed.{fewer, word_room, word_next, loop_fits, loop_ready, loop_next, done}
use Rattle.tables.proofs.Looped.{as_run_is, as_nothing, as_counter, turn_room, turn_put, turns_put, once_room, copies_room, copies_put}
use Rattle.tables.proofs.Writer.+again_each_looped_words.Goals as goal

pub again-returns-then-turns-eq0 : goal.again-returns-then-turns-eq0
unfolding looping
again-returns-then-turns-eq0 t c = rw c.if-turns-eq0.true (begin _ _ _)

pub again-words-mid-requires : goal.again-words-mid-requires
again-words-mid-requires t c =
    let a = c.args in (
      omega (arith, c.decreases),
      record {
        inside = c.requires.inside;
        room = once_room a.self.now.source a.rows.now a.self.now.k a.turns c.requires.room (pos_of_ne-zero c.if-turns-eq0.false);
      },
    )

pub again-repeat-requires : goal.again-repeat-requires
again-repeat-requires t c =
    let a = c.args in
    let q = copies_room a.self.now.source a.rows.now a.self.now.k a.turns c.requires.room c.words-mid.ensures in
    (pos_of_ne-zero c.if-turns-eq0.false, q.0, q.1)

pub again-returns : goal.again-returns
again-returns t c =
    let a = c.args in
    copies_put a.self.now.source a.rows.now a.self.now.k a.turns c.words-mid.ensures c.repeat.ensures

pub each-loop-j-init : goal.each-loop-j-init
each-loop-j-init t c = begin _ _ _

pub each-words-next-requires : goal.each-words-next-requires
each-words-next-requires t c =
    let a = c.args in (
      omega (arith, c.decreases),
      record {
        inside = c.requires.inside;
        room = turn_room a.self.now.source a.rows.now a.self.now.k (Counter a.level) a.turns _ c.loop-j.invariant _ c.turn.ensures c.loop-j-test.true c.requires.room;
      },
    )

pub each-loop-j-preserved : goal.each-loop-j-preserved
each-loop-j-preserved t c =
    let a = c.args in
    turn_put a.self.now.source a.rows.now a.self.now.k (Counter a.level) a.turns _ c.loop-j.invariant _ c.turn.ensures c.words-next.ensures

pub each-returns : goal.each-returns
each-returns t c =
    let a = c.args in
    turns_put a.self.now.source a.rows.now a.self.now.k (Counter a.level) a.turns _ c.loop-j.invariant (omega arith) c.loop-j-test.false

pub looped-run-requires : goal.looped-run-requires
looped-run-requires t c =
    let a = c.args in
    rw (as_run_is a.self.now.source a.rows.now a.self.now.k a.over a.turns c.in-Run.is) at c.requires.room

pub looped-again-requires : goal.looped-again-requires
looped-again-requires t c =
    let a = c.args in
    let e = as_nothing a.self.now.source a.rows.now a.self.now.k a.over a.turns c.in-Nothing.is in
    (omega (arith, c.decreases), rw e at c.requires)

pub looped-each-requires : goal.looped-each-requires
looped-each-requires t c =
    let a = c.args in
    let e = as_counter a.self.now.source a.rows.now a.self.now.k a.over a.turns c.in-Counter.is in
    (omega (arith, c.decreases), rw e at c.requires)

pub looped-returns-in-Run : goal.looped-returns-in-Run
looped-returns-in-Run t c =
    let a = c.args in
    rw (as_run_is a.self.now.source a.rows.now a.self.now.k a.over a.turns c.in-Run.is) c.run.ensures

pub looped-returns-in-Nothing : goal.looped-returns-in-Nothing
looped-returns-in-Nothing t c =
    let a = c.args in
    rw (as_nothing a.self.now.source a.rows.now a.self.now.k a.over a.turns c.in-Nothing.is) c.again.ensures

pub looped-returns-in-Counter : goal.looped-returns-in-Counter
looped-returns-in-Counter t c =
    let a = c.args in
    rw (as_counter a.self.now.source a.rows.now a.self.now.k a.over a.turns c.in-Counter.is) c.each.ensures

pub words-word-requires : goal.words-word-requires
words-word-requires t c = (word_room _ _ c.loop-rest.invariant.1 c.in-len1-up.len_at_least c.in-Word.is c.requires.room).0

pub words-bounds-out-next : goal.words-bounds-out-next
words-bounds-out-next t c = (word_room _ _ c.loop-rest.invariant.1 c.in-len1-up.len_at_least c.in-Word.is c.requires.room).1

pub words-looped-next-requires : goal.words-looped-next-requires
words-looped-next-requires t c = (
  omega (arith, c.decreases, fewer c.loop-rest.rest.now c.in-len1-up.len_at_least c.in-Loop.rows),
  loop_ready _ _ _ c.loop-rest.invariant.1 c.in-len1-up.len_at_least c.in-Loop.is c.requires.room,
)

pub words-slice_bounds-looped-end : goal.words-slice_bounds-looped-end
words-slice_bounds-looped-end t c =
    sym (length-take-le _ _ (loop_fits _ _ c.loop-rest.invariant.1 c.in-len1-up.len_at_least c.in-Loop.is))

pub words-slice_bounds-rest-count : goal.words-slice_bounds-rest-count
words-slice_bounds-rest-count t c = loop_fits _ _ c.loop-rest.invariant.1 c.in-len1-up.len_at_least c.in-Loop.is

pub words-slice_bounds-rest-start : goal.words-slice_bounds-rest-start
words-slice_bounds-rest-start t c = loop_fits _ _ c.loop-rest.invariant.1 c.in-len1-up.len_at_least c.in-Loop.is

pub words-offset_bounds-after-rows : goal.words-offset_bounds-after-rows
words-offset_bounds-after-rows t c =
    omega (arith, loop_fits _ _ c.loop-rest.invariant.1 c.in-len1-up.len_at_least c.in-Loop.is)

pub words-loop-rest-preserved-in-Word : goal.words-loop-rest-preserved-in-Word
words-loop-rest-preserved-in-Word t c = (
  omega (arith, fewer c.loop-rest.rest.now c.in-len1-up.len_at_least 0),
  word_next _ _ c.loop-rest.invariant.1 c.in-len1-up.len_at_least c.in-Word.is _ c.word.ensures,
)

pub words-loop-rest-preserved : goal.words-loop-rest-preserved
words-loop-rest-preserved t c = (
  omega (arith, fewer c.loop-rest.rest.now c.in-len1-up.len_at_least c.in-Loop.rows),
  loop_next _ _ _ c.loop-rest.invariant.1 c.in-len1-up.len_at_least c.in-Loop.is c.looped-next.ensures,
)

pub words-returns : goal.words-returns
words-returns t c = done _ c.loop-rest.invariant.1 (omega arith)
