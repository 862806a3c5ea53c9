-- `marks::Marked::at` meets its contract: a law for each way out. Rests on Marks.
use mathlib.Core.Path.{◌≡◌, sym, ap, ◌∙◌}
use Prim.Native.Nat.{ℕ}
use native.Mathlib.Omega.{arith}
use lib.ListN.{get_or}
use Rattle.fields.specs.Fields.{field_of, bits_of}
use Rattle.machine.specs.Effect.{cell_at}
use Rattle.machine.proofs.Tested.{bits_back}
use Rattle.marks.specs.Place.{writes_to}
use Rattle.marks.proofs.Marks.{not_yet, not_its, its}
use Rattle.marks.proofs.MarkedDepths.at.Goals as goal
use Rattle.marks.proofs.MarkedDepths.at.Goals.{After-field-by, After-writes}

mark_is : (c : After-field-by) → c.cast_unsigned-mark.result ≡ bits_of 64 (cell_at c.args.self.now.cells.now c.args.a)
mark_is c = bits_back (cell_at c.args.self.now.cells.now c.args.a) c.cast_unsigned-arg-1.given c.cast_unsigned-mark.ensures

by_is : (c : After-field-by) → c.field-by.result ≡ field_of 0 24 (bits_of 64 (cell_at c.args.self.now.cells.now c.args.a))
by_is c = c.field-by.ensures.0 ∙ ap (field_of 0 24) (mark_is c)

ours : (c : After-writes) → c.field-by.result ≡ field_of 0 24 (bits_of 64 (cell_at c.args.self.now.cells.now c.args.a)) → let s = c.args in
    writes_to (get_or s.self.now.words.now (field_of 0 24 (bits_of 64 (cell_at s.self.now.cells.now s.a))) 0) s.a ≡ c.writes.result
ours c b =
    let s = c.args in ap (λ (j : ℕ). writes_to (get_or s.self.now.words.now j 0) s.a) (sym b) ∙ sym c.writes.ensures

pub returns-then-self-by : goal.returns-then-self-by
returns-then-self-by c =
    let b = by_is (goal.at.returns-then-self-by c).After-field-by in (not_yet _ _ _ _ (omega arith), omega arith)

pub returns-then-writes : goal.returns-then-writes
returns-then-writes c =
    let f = (goal.at.returns-then-writes c).After-field-by in
    let b = by_is f in (
      c.field.ensures.0
          ∙ ap (field_of 24 40) (mark_is f)
          ∙ its _ _ _ _ (omega arith) (ours (goal.at.returns-then-writes c).After-writes b ∙ c.if-writes.true),
      c.field.ensures.1,
    )

pub returns : goal.returns
returns c =
    let b = by_is (goal.at.returns c).After-field-by in
    (not_its _ _ _ _ (ours (goal.at.returns c).After-writes b ∙ c.if-writes.false), omega arith)
