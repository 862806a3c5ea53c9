-- `runner::carry_plan` meets its contract: before each word, what is left of the plan is still to carry out. Rests on Turn and Worked.
use mathlib.Core.Path.{refl}
use native.Mathlib.Omega.{arith}
use Rattle.runner.proofs.Turn.{has_header, start, can, fits, again, done, no_words}
use Rattle.runner.proofs.Worked.{tail_word, tail_long}
use Rattle.runner.proofs.carry_plan.Goals as goal

pub returns-in_default : goal.returns-in_default
returns-in_default c = no_words _ _ _ (omega arith)

pub bounds-log-0 : goal.bounds-log-0
bounds-log-0 c = has_header c.args.plan.now c.args.cells.now c.args.log.now (omega arith) c.requires.1

pub words-init : goal.words-init
words-init c = start _ _ c.args.log.now _ (omega arith) refl c.requires.0 c.requires.1

pub append-at-requires : goal.append-at-requires
append-at-requires c =
    let plan = c.args.plan.now in
    let l = tail_long plan c.in-len1-up.len_at_least in
    let i = c.words.invariant in
    (can i.carrying (omega arith) _ (tail_word plan _), fits i (omega arith) _ (tail_word plan _))

pub step-requires : goal.step-requires
step-requires c =
    let l = tail_long c.args.plan.now c.in-len1-up.len_at_least in
    can c.words.invariant.carrying (omega arith) _ (tail_word c.args.plan.now _)

pub words-preserved : goal.words-preserved
words-preserved c =
    let l = tail_long c.args.plan.now c.in-len1-up.len_at_least in
    again c.words.invariant (omega arith) _ (tail_word c.args.plan.now _) _ _ _ c.step.ensures c.append-at.ensures

pub returns : goal.returns
returns c =
    let l = tail_long c.args.plan.now c.in-len1-up.len_at_least in
    done _ c.words.invariant (omega arith) refl (omega arith)
