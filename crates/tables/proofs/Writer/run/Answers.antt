-- `tables::Writer::run` meets its contract: row by row. Rests on Columns.
use mathlib.Core.Path.{◌≡◌, ◌∙◌}
use native.Mathlib.Omega.{arith}
use Rattle.tables.specs.Writing.{moving_at, straight, running}
use Rattle.tables.proofs.Columns.{moving_at_is, striped, ends_in, row_small, begins, row_more, stripes}
use Rattle.tables.proofs.Writer.run.Goals as goal

pub overflow_mul-end : goal.overflow_mul-end
unfolding running straight
overflow_mul-end c = omega (arith, ends_in _ _ _ _ _ c.requires)

pub overflow_add-end : goal.overflow_add-end
unfolding running straight
overflow_add-end c = omega (arith, ends_in _ _ _ _ _ c.requires)

pub returns-then-end-at : goal.returns-then-end-at
unfolding running straight
returns-then-end-at c =
    stripes _ _ _ _ _ (striped _ _ _ _ _) (λ l. let no : ⊥ = omega (arith, c.if-end-at.true) in absurd no) c.requires

pub column-requires : goal.column-requires
unfolding running straight
column-requires c =
    let h = c.loop-i-test.true in
    let e : c.moving_of.result ≡ moving_at c.args.rows.now c.loop-i.i = c.moving_of.ensures ∙ moving_at_is _ _ _ h in
    record {
      some = omega arith;
      few = omega arith;
      begins = begins _ _ _ _ c.if-end-at.false h;
      fits = omega (arith, ends_in _ _ _ _ _ c.requires, c.loop-i.auto.out);
      small = λ j l. rw e (row_small _ _ _ _ _ c.requires _ h j l);
    }

pub loop-i-preserved : goal.loop-i-preserved
loop-i-preserved c =
    let h = c.loop-i-test.true in
    let e : c.moving_of.result ≡ moving_at c.args.rows.now c.loop-i.i = c.moving_of.ensures ∙ moving_at_is _ _ _ h in
    row_more _ _ _ _ _ c.loop-i.invariant h (rw e at c.column.ensures)

pub returns : goal.returns
unfolding running straight
returns c = stripes _ _ _ _ _ c.loop-i.invariant (λ l. c.loop-i-test.false) c.requires
