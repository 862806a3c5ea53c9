-- `runner::log_length` meets its contract: the count so far and the published words from each word on. Rests on Sized and Worked.
use mathlib.Core.Path.{◌≡◌, sym, ap, ◌∙◌}
use Prim.Native.Nat.{◌+◌}
use native.Mathlib.Omega.{arith}
use lib.ListN.{get_or}
use Rattle.machine.specs.Log.{opens}
use Rattle.runner.proofs.Sized.{start, again_open, again_other, done}
use Rattle.runner.proofs.Worked.{tail_word, tail_long}
use Rattle.runner.proofs.log_length.Goals as goal
use Rattle.runner.proofs.log_length.Goals.{then-opens, else-opens}

pub loop-word-init : goal.loop-word-init
loop-word-init c = start _

pub overflow_add-size : goal.overflow_add-size
overflow_add-size c = let l = tail_long c.args.plan.now c.in-len1-up.len_at_least in omega arith

pub loop-word-preserved : goal.loop-word-preserved
loop-word-preserved c =
    let l = tail_long c.args.plan.now c.in-len1-up.len_at_least in
    let i = c.loop-word.invariant in
    let told : opens (get_or c.args.plan.now (c.loop-word.word-index + 1) 0) ≡ c.opens.result =
    ap opens (sym (tail_word c.args.plan.now c.loop-word.word-index)) ∙ sym c.opens.ensures in
    elim c.if-opens.branch [
      | then-opens w ↦ again_open _ _ _ i (omega arith) (told ∙ w.if-opens.true) _ w.size-is
      | else-opens w ↦ again_other _ _ _ i (omega arith) (told ∙ w.if-opens.false) _ w.size-is
    ]

pub returns-in_default : goal.returns-in_default
returns-in_default c = done _ _ _ (start c.args.plan.now) (omega arith)

pub returns-after-loop-word : goal.returns-after-loop-word
returns-after-loop-word c =
    let l = tail_long c.args.plan.now c.in-len1-up.len_at_least in done _ _ _ c.loop-word.invariant (omega arith)
