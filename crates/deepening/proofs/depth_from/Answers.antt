-- `deepening::depth_from` meets its contract. Rests on Words.
use native.Mathlib.Omega.{arith}
use Prim.Native.Nat.{◌^◌}
use Rattle.ops.specs.Op.{code}
use Rattle.ops.proofs.Named.{below_eight}
use Rattle.deepening.proofs.Words.{six_most, read_most}
use Rattle.deepening.proofs.depth_from.Goals as goal

pub overflow_add-result : goal.overflow_add-result
overflow_add-result c =
    let op = c.args.op in
    let below = below_eight op in
    let l = read_most (2 ^ 40) (code op) c.args.x c.args.y c.args.z below (omega arith) (omega arith) (omega arith) in
    rw (c.args.column.now.of_the_rules, c.code.ensures) (omega (arith, c.read_depth.ensures, six_most (code op) below))

pub returns : goal.returns
returns c = rw (c.args.column.now.of_the_rules, c.code.ensures, c.read_depth.ensures)
