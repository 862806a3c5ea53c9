-- `requests::log_length` meets its contract. Rests on Sizes.
use native.Mathlib.Omega.{arith}
use Rattle.plans.proofs.Figures.{length_most}
use Rattle.limits.proofs.Sizes.{log_opened, log_quiet}
use Rattle.requests.proofs.log_length.Goals as goal

pub overflow_add-result : goal.overflow_add-result
overflow_add-result c = omega (arith, c.requires.length_is, length_most _ c.args.h.within_limits)

pub returns-in-Some : goal.returns-in-Some
returns-in-Some c = log_opened _ _ _ c.requires.length_is (rw c.in-Some.is at c.requires.verdict_is)

pub returns-in-None : goal.returns-in-None
returns-in-None c = log_quiet _ _ c.requires.length_is (rw c.in-None.is at c.requires.verdict_is)
