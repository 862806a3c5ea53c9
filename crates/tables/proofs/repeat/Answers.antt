-- `tables::repeat` meets its contract. Rests on Copied.
use mathlib.Core.Path.{◌≡◌}
use Prim.Native.Nat.{◌+◌, ◌-◌, ◌*◌, ◌≤◌}
use native.Mathlib.Nat.{mul-le-mul_right}
use native.Mathlib.Omega.{arith}
use Rattle.tables.proofs.Copied.{start, again, finish}
use Rattle.tables.proofs.repeat.Goals as goal

pub loop-i-init : goal.loop-i-init
loop-i-init c = λ ws before p. start _ p c.requires.0

pub loop-i-preserved : goal.loop-i-preserved
loop-i-preserved c =
    λ ws before p. again _ p (c.loop-i.invariant ws before p) (omega arith) c.loop-i-test.true c.requires.2

pub returns : goal.returns
returns c =
    λ ws before p.
    let some : 1 ≤ c.args.count = omega arith in
    let e : c.loop-i.i ≡ c.args.at + c.args.count * (c.args.mid - c.args.at) =
    omega (arith, mul-le-mul_right (c.args.mid - c.args.at) some) in
    rw e at (finish _ p (c.loop-i.invariant ws before p) (omega arith) c.loop-i-test.false)
