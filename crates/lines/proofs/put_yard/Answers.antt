-- `lines::put_yard` meets its contract. Rests on text's Written.
use mathlib.Core.List.{append_assoc}
use mir.Facts.{to_z-of_z}
use Rattle.text.specs.Text.{line_of}
use Rattle.text.proofs.Written.{then}
use Rattle.lines.proofs.put_yard.Goals as goal

pub returns : goal.returns
unfolding line_of
returns c =
    let listed = rw (to_z-of_z c.ranges.distance) at c.if-left_out.ensures in
    let d = rw (to_z-of_z c.ranges.distance) at c.reached.ensures in
    let p = rw (to_z-of_z c.ranges.parent) at c.known.ensures in
    let whole = then c.put_number.ensures (then c.put_byte.ensures (then c.put_shown.ensures c.put_shown-2.ensures)) in
    rw (← listed, ← d, ← p) (rw append_assoc at whole)
