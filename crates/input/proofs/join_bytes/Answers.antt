-- `input::join_bytes` meets its contract. Rests on Joining.
use Prim.Native.Nat.{◌+◌, ◌-◌}
use native.Mathlib.Omega.{arith}
use Rattle.input.proofs.Joining.{joined}
use Rattle.input.proofs.join_bytes.Goals as goal

pub returns : goal.returns
returns c =
    let at = c.args.at in
    let word = joined c.args.bytes.now _ at (at + 8 - at) (omega arith) c.copy_from_slice.ensures.after in
    omega (arith, word)
