-- `charge::table::Table::deepen` meets its contract. Rests on deepening's Words and Deepening, and lists' Sets.
use Prim.Native.Nat.{◌+◌, ◌<◌, ◌≤◌, ◌^◌}
use native.Mathlib.Omega.{arith}
use mathlib.Core.Path.{ap}
use Rattle.lists.proofs.Sets.{set_at}
use Rattle.machine.proofs.Admitted.{op_below}
use Rattle.machine.proofs.Parted.{admitted_fields}
use Rattle.ops.specs.Op.{code}
use Rattle.ops.specs.declared.Op.TheVariants.{Open}
use Rattle.ops.proofs.Named.{other}
use Rattle.deepening.proofs.Words.{d_there, deepens_open, deepens_other}
use Rattle.deepening.proofs.Deepening.{by_most}
use Rattle.charge.proofs.table.Table.deepen.Given.{Over}
use Rattle.charge.proofs.table.Table.deepen.Goals as goal
use Rattle.charge.proofs.table.Table.deepen.Goals.{In_default}

-- An op other than OPEN writes d, which is there.
there : (g : Over) (c : In_default g) → (code c.of-w.result.op < 7) × (c.of-w.result.d < g.row.CELLS)
there g c = d_there _ _ _ _ _ (admitted_fields c.of-w.ensures _ c.requires.0) (other _ Open c.in_default.not-Open)

pub of-w-requires : goal.of-w-requires
of-w-requires g c = op_below _ _ _ _ _ c.requires.0

pub depth_of-depth-requires : goal.depth_of-depth-requires
depth_of-depth-requires g c = admitted_fields c.of-w.ensures _ c.requires.0

pub returns-in-Open : goal.returns-in-Open
returns-in-Open g c = deepens_open c.of-w.ensures c.depth_of-depth.ensures (ap code c.in-Open.is)

pub overflow_cast-self : goal.overflow_cast-self
overflow_cast-self g c =
    let low : c.depth_of-depth.result ≤ 2 ^ 31 + 6 = rw c.depth_of-depth.ensures (by_most (2 ^ 31) _ c.requires.1 _) in
    omega (arith, low)

pub bounds-self-w : goal.bounds-self-w
bounds-self-w g c = (there g (goal.at.bounds-self-w g c).In_default).1

pub returns : goal.returns
returns g c =
    let h = there g (goal.at.returns g c).In_default in
    deepens_other c.of-w.ensures c.depth_of-depth.ensures h.0 (λ k. set_at c.args.self.now.depths _ k _ 0 (omega (arith, h)))
