-- `fields::field` meets its contract: the mask is 2 ^ width - 1. Rests on Shifts.
use Prim.Native.Nat.{◌/◌, ◌^◌}
use native.Mathlib.Omega.{arith}
use lib.Bits.{and_mask, mask_lt}
use lib.Pow.{pow_pos}
use Rattle.fields.proofs.Shifts.{one_shl}
use Rattle.fields.proofs.field.Goals as goal

pub overflow_sub-result : goal.overflow_sub-result
overflow_sub-result c = omega (arith, one_shl c.args.width c.requires.1, pow_pos c.args.width)

pub returns : goal.returns
returns c =
    rw (one_shl c.args.width c.requires.1)
    (and_mask _ _, mask_lt (c.args.word / 2 ^ c.args.shift) c.args.width)
