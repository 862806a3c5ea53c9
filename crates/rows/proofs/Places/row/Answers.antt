-- `rows::Places::row` meets its contract: SET, another instruction, or a loop, by the op. Rests on Coded and ops' Named.
use mathlib.Core.Path.{sym, ap, ◌∙◌}
use native.Mathlib.Omega.{arith}
use Rattle.ops.specs.Op.{code}
use Rattle.ops.specs.declared.Op.TheVariants.{Set}
use Rattle.ops.proofs.Named.{below_eight, other}
use Rattle.rows.proofs.Coded.{set_code, word_code, loop_code}
use Rattle.rows.proofs.Places.row.Goals as goal

pub returns-in-Set : goal.returns-in-Set
returns-in-Set c = set_code _ _ _ c.field-op.ensures.0 (sym c.in-Some.ensures ∙ ap code c.in-Set.is) c.set.ensures

pub returns-in_default : goal.returns-in_default
returns-in_default c =
    let n = other c.in-Some.named Set c.in_default.not-Set in
    let e = c.in-Some.ensures in
    let b = below_eight c.in-Some.named in
    word_code _ _ _ c.field-op.ensures.0 (omega (arith, e, n)) (omega (arith, e, b)) c.instruction.ensures

pub returns-in-None : goal.returns-in-None
returns-in-None c =
    let l = c.in-None.ensures in
    rw c.over_of.ensures (loop_code _ _ _ c.field-op.ensures.0 (omega (arith, l)) c.place.ensures.0 c.field.ensures.0)
