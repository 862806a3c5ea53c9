-- `lines::put_pair` meets its contract. Rests on text's Written.
use native.Mathlib.Omega.{arith}
use mir.Facts.{to_z-of_z}
use Rattle.text.specs.Text.{line_of}
use Rattle.text.proofs.Written.{then, wider}
use Rattle.lines.proofs.put_pair.Goals as goal

pub returns : goal.returns
unfolding line_of
returns c =
    let listed = rw (to_z-of_z c.ranges.distance) at c.if-left_out.ensures in
    let d = rw (to_z-of_z c.ranges.distance) at c.reached.ensures in
    rw (← listed, ← d)
    (wider
    (then c.put_number.ensures
    (then c.put_byte.ensures (then c.put_number-2.ensures (then c.put_byte-2.ensures c.put_shown.ensures))))
    65 (omega arith))
