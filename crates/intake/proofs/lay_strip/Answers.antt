-- `intake::lay_strip` meets its contract: before cell i of the strip, the numbers of the cells before it are laid. Rests on Laid.
use borrow.Author.Rules.{rules}
use mathlib.Core.Path.{refl}
use native.Mathlib.Omega.{arith}
use Rattle.plans.specs.Blocks.{flat}
use Rattle.intake.proofs.Copied.{one_set}
use Rattle.intake.proofs.Laid.{strip_done}
use Rattle.intake.proofs.lay_strip.Goals as goal

pub loop-i-init : goal.loop-i-init
unfolding flat
loop-i-init c = (refl, refl)

pub loop-i-preserved : goal.loop-i-preserved
loop-i-preserved c = (search rules, one_set _ _ _ _ _ _ c.part_of.type_inv c.part_of.ensures c.loop-i.invariant.1)

pub returns : goal.returns
returns c = strip_done _ _ _ _ _ (omega arith) (omega arith) c.loop-i.invariant.1
