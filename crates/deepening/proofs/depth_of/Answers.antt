-- `deepening::depth_of` meets its contract. Rests on Words.
use mathlib.Core.Path.{sym, ap, ◌∙◌}
use Prim.Native.Nat.{◌<◌}
use denote.Enum.Bare.{same_true, same_false}
use Rattle.ops.specs.contracts.Op.{the_type}
use Rattle.ops.specs.declared.Op.TheVariants.{Set}
use Rattle.ops.specs.Op.{code}
use Rattle.ops.proofs.Named.{below_eight, other}
use Rattle.deepening.proofs.Words.{of_set, of_other, all_there}
use Rattle.deepening.proofs.depth_of.Goals as goal
use Rattle.deepening.proofs.depth_of.Given.{Over}
use Rattle.deepening.proofs.depth_of.Goals.{Else-constant}

-- The three cells of an op other than SET are there.
there : (g : Over) (c : Else-constant g) → let w = c.args.w in
    let n = g.D.Depths.count c.args.cells.now in
    (w.a < n) × (w.b < n) × (w.d < n)
there g c =
    all_there _ _ _ _ _ c.requires (other c.args.w.op Set (same_false the_type _ Set (sym c.eq-constant.ensures ∙ c.if-constant.false)))

pub returns-then-constant : goal.returns-then-constant
returns-then-constant g c = of_set _ _ _ _ _ (ap code (same_true the_type tt _ Set (sym c.eq-constant.ensures ∙ c.if-constant.true)))

pub at-x-requires : goal.at-x-requires
at-x-requires g c = (there g c).0

pub at-y-requires : goal.at-y-requires
at-y-requires g c = (there g (goal.at.at-y-requires g c).Else-constant).1

pub at-z-requires : goal.at-z-requires
at-z-requires g c = (there g (goal.at.at-z-requires g c).Else-constant).2

pub returns : goal.returns
returns g c = of_other _ _ _ _ _ (below_eight _) c.at-x.ensures.0 c.at-y.ensures.0 c.at-z.ensures.0 c.depth_from.ensures
