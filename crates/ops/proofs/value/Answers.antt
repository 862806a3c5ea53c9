-- `ops::value` meets its contract: what the code works out is what the op asks. Rests on machine's Tested.
use Rattle.std.proofs.Common.{◌∙◌, to_z-of_z}
use Rattle.machine.specs.Word.{decode_at}
use Rattle.machine.specs.Value.{value_of}
use Rattle.machine.proofs.Tested.{kept, added, byte_bit, eq_bits, both_second, both_first}
use Rattle.ops.proofs.value.Goals as goal
use Rattle.ops.proofs.value.Goals.{then-x-ne0, else-x-ne0}

pub returns-in-Copy : goal.returns-in-Copy
unfolding value_of decode_at
returns-in-Copy c = rw (to_z-of_z c.ranges.x, c.in-Copy.is)

pub returns-in-Add : goal.returns-in-Add
unfolding value_of decode_at
returns-in-Add c = rw c.in-Add.is (added _ _)

pub returns-in-Less : goal.returns-in-Less
unfolding value_of decode_at
returns-in-Less c =
    rw c.in-Less.is (kept _ c.from.type_inv ∙ c.from.ensures ∙ rw (to_z-of_z c.ranges.x, to_z-of_z c.ranges.y) (byte_bit _))

pub returns-in-Equal : goal.returns-in-Equal
unfolding value_of decode_at
returns-in-Equal c =
    let f = c.from-in-Equal in
    rw c.in-Equal.is (kept _ f.type_inv ∙ f.ensures ∙ rw (eq_bits _ _ c.ranges.x c.ranges.y) (byte_bit _))

pub returns-after-x-ne0 : goal.returns-after-x-ne0
unfolding value_of decode_at
returns-after-x-ne0 c =
    let f = c.from-in-Both in
    let r = c.ranges in
    rw c.in-Both.is
    (kept _ f.type_inv
    ∙ f.ensures
    ∙ elim c.if-x-ne0.branch [
      | then-x-ne0 w ↦ rw w.from-is (both_second _ _ r.y w.if-x-ne0.true)
      | else-x-ne0 w ↦ rw w.from-is (both_first _ _ r.x w.if-x-ne0.false)
    ])
