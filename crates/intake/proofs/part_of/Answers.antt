-- `intake::part_of` meets its contract, part by part. Rests on the machine's Tested.
use mathlib.Core.Path.{◌≡◌, ap, ◌∙◌}
use Prim.Native.Nat.{ℕ, ◌^◌, ◌<◌}
use native.Mathlib.Omega.{arith}
use lib.IntN.{pos, negsuc}
use mir.Syntax.{w64}
use mir.Val.{to_z}
use mir.Facts.{to_z_pos, sfits_lit}
use Rattle.machine.proofs.Tested.{kept, signed_is, eq_test, ne_test}
use Rattle.intake.proofs.part_of.Goals as goal

-- A field of eight bits as a cell.
eight : (r n : ℕ) → (r ≡ n) × (r < 2 ^ 8) → to_z w64 r ≡ pos n
eight r n (e, small) = to_z_pos w64 {n = r} (omega arith) ∙ ap pos e

pub returns-in-From : goal.returns-in-From
returns-in-From c = rw c.in-From.is (eight _ _ c.field.ensures)

pub returns-in-To : goal.returns-in-To
returns-in-To c = rw c.in-To.is (eight _ _ c.field-in-To.ensures)

pub returns-in-Weight : goal.returns-in-Weight
returns-in-Weight c = rw c.in-Weight.is (kept _ c.weight.type_inv ∙ c.weight.ensures)

pub returns-then-value : goal.returns-then-value
returns-then-value c =
    let t = eq_test c.weight-value.result (negsuc 0) (record { sfits = c.weight-value.type_inv }) (sfits_lit tt) c.if-value.true in
    rw (c.in-Entry.is, ← c.weight-value.ensures, t)

pub returns-else-value : goal.returns-else-value
returns-else-value c =
    let t = ne_test c.weight-value.result (negsuc 0) c.if-value.false in
    rw (c.in-Entry.is, ← c.weight-value.ensures, t) (kept _ c.weight-value.type_inv)

pub returns-in-Whole : goal.returns-in-Whole
returns-in-Whole c = rw c.in-Whole.is (kept _ c.cast_signed.type_inv ∙ c.cast_signed.ensures ∙ signed_is c.args.word)
