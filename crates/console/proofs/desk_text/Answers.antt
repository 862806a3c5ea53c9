-- `console::desk_text` meets its contract. Rests on Whole and replies' Answered.
use borrow.Author.Rules.{rules}
use mathlib.Core.Path.{sym, ap, ◌∙◌}
use native.Mathlib.Omega.{arith}
use Rattle.printing.specs.Desk.{desk_text}
use Rattle.engine.proofs.Told.{by_run}
use Rattle.replies.proofs.Answered.{run_accepted, answer_text}
use Rattle.console.proofs.Whole.{printed}
use Rattle.console.proofs.desk_text.Goals as goal

pub put_answer-requires : goal.put_answer-requires
put_answer-requires c =
    let r = c.run-served.ensures in
    (search rules, λ z. run_accepted _ _ _ _ _ _ _ _ r.1 _ r.0 (sym (ap (λ t. t.number) (by_run _)) ∙ z))

pub returns : goal.returns
unfolding desk_text
returns c =
    let r = c.run-served.ensures in
    let same = c.same-all in
    let e = c.new-printed.ensures in
    printed e.lent e.empty c.len.ensures (omega arith)
    (rw (by_run _, answer_text _ _ _ _ _ _ _ _ r.1 same.result _ r.0, c.new-desk.ensures, same.ensures) at c.put_answer.ensures)
