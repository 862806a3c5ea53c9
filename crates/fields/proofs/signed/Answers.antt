-- `fields::signed` meets its contract, at every width from 1 to 64. Rests on Shifts.
use borrow.Author.Tests.{lt-ltb, le-ltb}
use mathlib.Core.Path.{ap, ◌∙◌}
use native.Mathlib.Omega.{arith}
use lib.IntN.{negsuc}
use mir.Syntax.{w64}
use mir.Facts.{to_z_pos, of_z-to_z}
use Rattle.fields.specs.Fields.{signed_of}
use Rattle.fields.proofs.Shifts.{half_of, down}
use Rattle.fields.proofs.signed.Goals as goal

pub returns-then-raw-half : goal.returns-then-raw-half
unfolding signed_of
returns-then-raw-half c =
    let half = half_of c.args.width c.requires.0 c.requires.1 in
    rw (c.cast_signed.ensures, of_z-to_z c.ranges.raw, to_z_pos w64 {n = c.args.raw} (omega arith), ← half.is, lt-ltb _ _ c.if-raw-half.true)

pub returns-else-raw-half : goal.returns-else-raw-half
unfolding signed_of
returns-else-raw-half c =
    let half = half_of c.args.width c.requires.0 c.requires.1 in
    down _ c.cast_signed-else-raw-half.ensures (omega (arith, c.requires.2)) ∙ rw (← half.is, le-ltb _ _ c.if-raw-half.false) (ap negsuc (omega arith))
