-- `marks::deepen` meets its contract. Rests on deepening's Words and Deepening, and on Marks.
use mathlib.Core.Path.{ap}
use Prim.Native.Nat.{◌+◌, ◌<◌, ◌≤◌, ◌^◌}
use native.Mathlib.Omega.{arith}
use lib.ListN.{length}
use Rattle.machine.proofs.Admitted.{op_below}
use Rattle.machine.proofs.Parted.{admitted_fields}
use Rattle.machine.proofs.Tested.{kept, bits_is, signed_is}
use Rattle.ops.specs.Op.{code}
use Rattle.ops.specs.declared.Op.TheVariants.{Open}
use Rattle.ops.proofs.Named.{other}
use Rattle.deepening.proofs.Words.{d_there}
use Rattle.deepening.proofs.Deepening.{by_most}
use Rattle.marks.proofs.Marks.{open_saved, other_saved}
use Rattle.marks.proofs.deepen.Goals as goal
use Rattle.marks.proofs.deepen.Goals.{After-depth_of-depth, In_default}

-- An op other than OPEN writes d, which is there.
there : (c : In_default) → let w = c.of-w.result in
    (code w.op < 7) × (w.d < length c.args.cells.now)
there c =
    d_there _ _ _ _ _ (admitted_fields c.of-w.ensures _ c.requires.3) (other _ Open c.in_default.not-Open)

low : (c : After-depth_of-depth) → c.depth_of-depth.result ≤ 2 ^ 31 + 6
low c = rw c.depth_of-depth.ensures (by_most (2 ^ 31) _ c.requires.4 _)

pub of-w-requires : goal.of-w-requires
of-w-requires c = op_below _ _ _ _ _ c.requires.3

pub depth_of-depth-requires : goal.depth_of-depth-requires
depth_of-depth-requires c = admitted_fields c.of-w.ensures _ c.requires.3

pub returns-in-Open : goal.returns-in-Open
returns-in-Open c = open_saved _ _ c.of-w.ensures _ _ c.depth_of-depth.ensures (ap code c.in-Open.is)

pub slice_copy_out-cast_unsigned : goal.slice_copy_out-cast_unsigned
slice_copy_out-cast_unsigned c = (there (goal.at.slice_copy_out-cast_unsigned c).In_default).1

pub join-requires : goal.join-requires
join-requires c = let l = low (goal.at.join-requires c).After-depth_of-depth in (omega arith, omega arith, omega arith)

pub bounds-cells-d : goal.bounds-cells-d
bounds-cells-d c = (there (goal.at.bounds-cells-d c).In_default).1

pub returns : goal.returns
returns c =
    let l = low (goal.at.returns c).After-depth_of-depth in
    let h = there (goal.at.returns c).In_default in
    let s = c in
    rw
    (kept _ c.cast_signed.type_inv, c.cast_signed.ensures, c.join.ensures, signed_is, c.cast_unsigned.ensures, kept _ c.cast_unsigned-arg-1.given, bits_is)
    (other_saved _ _ c.of-w.ensures s.args.cells.now _ c.depth_of-depth.ensures h.0 h.1 s.requires.1
    (omega (arith, s.requires.0, s.requires.2)) (omega (arith, l)) c.cast_unsigned-arg-1.given)
