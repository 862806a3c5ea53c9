-- `Text::put_signed` meets its contract. Rests on Digits and fields' Shifts.
use mathlib.Core.Path.{◌≡◌}
use lib.IntN.{nat_abs}
use mir.Facts.{to_z-of_z}
use Rattle.fields.proofs.Shifts.{below, not_below}
use Rattle.text.proofs.Digits.{negative, positive}
use Rattle.text.proofs.Text.put_signed.Goals as goal
use Rattle.text.proofs.Text.put_signed.Goals.{then-negative, else-negative}

pub returns : goal.returns
returns c =
    let size : c.magnitude.result ≡ nat_abs c.args.value = rw (to_z-of_z c.ranges.value) at c.magnitude.ensures in
    elim c.if-negative.branch [
      | then-negative w ↦ negative (below _ c.ranges.value w.if-negative.true) size w.put_byte.ensures (rw w.self-is at c.put_number.ensures)
      | else-negative w ↦ positive (not_below _ c.ranges.value w.if-negative.false) size (rw w.self-is at c.put_number.ensures)
    ]
