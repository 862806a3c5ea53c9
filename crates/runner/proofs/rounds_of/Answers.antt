-- `runner::rounds_of` meets its contract. Rests on Worked.
use mathlib.Core.Path.{refl}
use native.Mathlib.Omega.{arith}
use Rattle.runner.proofs.Worked.{none_deep, tail, shorter}
use Rattle.runner.proofs.rounds_of.Goals as goal

pub returns-in_default : goal.returns-in_default
returns-in_default c = record { charged = none_deep c.args.plan.now (omega arith); cells_stay = refl; log_beyond = refl }

pub depth_of-requires : goal.depth_of-requires
depth_of-requires c =
    let l = shorter c.args.plan.now in
    rw (tail c.args.plan.now) (c.requires.0, omega arith, omega arith)

pub returns : goal.returns
returns c = rw (tail c.args.plan.now) at c.depth_of.ensures
