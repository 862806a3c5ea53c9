-- `console::host_text` meets its contract. Rests on Whole and replies' Answered.
use borrow.Author.Rules.{rules}
use native.Mathlib.Omega.{arith}
use Rattle.printing.specs.Desk.{host_text}
use Rattle.engine.proofs.Told.{by_run}
use Rattle.replies.proofs.Answered.{short_log, log_text_is}
use Rattle.console.proofs.Whole.{printed}
use Rattle.console.proofs.host_text.Goals as goal

pub put_log-requires : goal.put_log-requires
put_log-requires c =
    let r = c.run-served.ensures in
    (search rules, search rules, rw (by_run _) (omega (arith, short_log _ _ _ _ _ _ _ _ r.1)))

pub returns : goal.returns
unfolding host_text
returns c =
    let r = c.run-served.ensures in
    let e = c.new-printed.ensures in
    printed e.lent e.empty c.len.ensures (omega arith) (rw (by_run _, log_text_is _ _ _ _ _ _ _ _ r.1, c.new-desk.ensures) at c.put_log.ensures)
