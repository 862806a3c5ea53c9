-- `fields::bits` meets its contract, at every width from 1 to 64. Rests on Shifts.
use native.Mathlib.Omega.{arith}
use mathlib.Core.Path.{ap}
use mir.Syntax.{w64}
use mir.Facts.{to_z_pos, to_z-of_z}
use Rattle.fields.specs.Fields.{bits_of}
use Rattle.fields.proofs.Shifts.{half_of, below, not_below}
use Rattle.fields.proofs.bits.Goals as goal

pub returns-then-value-lt0 : goal.returns-then-value-lt0
unfolding bits_of
returns-then-value-lt0 c =
    let half = half_of c.args.width c.requires.0 c.requires.1 in
    let h = below c.args.value c.ranges.value c.if-value-lt0.true in
    rw (h.turned, to_z_pos w64 h.small) (omega (arith, ap (bits_of c.args.width) h.is))

pub returns-else-value-lt0 : goal.returns-else-value-lt0
unfolding bits_of
returns-else-value-lt0 c =
    let h = not_below c.args.value c.ranges.value c.if-value-lt0.false in
    rw (to_z-of_z c.ranges.value, h.is)
