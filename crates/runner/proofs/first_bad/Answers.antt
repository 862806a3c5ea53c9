-- `runner::first_bad` meets its contract: the lowest bad place from `place` on is that of the plan. Rests on Lowest.
use mathlib.Core.Path.{sym, ◌∙◌}
use Rattle.runner.proofs.Lowest.{start, again, found_here, found_nowhere}
use Rattle.runner.proofs.first_bad.Goals as goal

pub loop-place-init : goal.loop-place-init
loop-place-init c = start _ _

pub returns-then-bad : goal.returns-then-bad
returns-then-bad c = found_here _ _ _ c.loop-place.invariant c.loop-place-test.true (sym c.bad.ensures ∙ c.if-bad.true)

pub loop-place-preserved : goal.loop-place-preserved
loop-place-preserved c = again _ _ _ c.loop-place.invariant c.loop-place-test.true (sym c.bad.ensures ∙ c.if-bad.false)

pub returns : goal.returns
returns c = found_nowhere _ _ _ c.loop-place.invariant c.loop-place-test.false
