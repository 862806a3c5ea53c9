-- `planner::write_plan` meets its contract: a law for each way out. Rests on Answers, and on answers for what `?` hands on.
use mathlib.Core.Path.{sym, ◌∙◌}
use native.Mathlib.Omega.{arith}
use Rattle.answers.proofs.Found.{the_same}
use Rattle.plans.proofs.Figures.{length_plan}
use Rattle.planner.proofs.Answers.{no_header, bad_header, too_short, all_written}
use Rattle.planner.proofs.write_plan.Goals as goal

pub returns-in_default : goal.returns-in_default
returns-in_default c = no_header _ _ c.in_default.len_below

pub returns-in_err-h : goal.returns-in_err-h
returns-in_err-h c =
    bad_header _ _ c.in-len1-up.len_at_least _ c.read_header.ensures _ c.in_err-h.ensures.0 _ (the_same _ _ c.from_residual.ensures.1)

pub returns-then-plan-f : goal.returns-then-plan-f
returns-then-plan-f c =
    let (fine, is) = c.in_ok-h.ensures in
    too_short _ _ c.in-len1-up.len_at_least _ (is ∙ c.read_header.ensures) (rw is fine)
    (omega (arith, c.figures_of-f.ensures.length_is, length_plan _ c.in_ok-h.h.within_limits))

pub fill-requires : goal.fill-requires
fill-requires c = omega (arith, c.figures_of-f.ensures.length_is, c.if-plan-f.false)

pub returns : goal.returns
returns c =
    let (fine, is) = c.in_ok-h.ensures in
    let e = length_plan _ c.in_ok-h.h.within_limits in
    all_written _ _ c.in-len1-up.len_at_least _ (is ∙ c.read_header.ensures) (rw is fine) _ _ (c.fill.ensures.0 ∙ sym e)
    (omega (arith, e, c.figures_of-f.ensures.length_is, c.if-plan-f.false))
    c.fill.ensures.1
