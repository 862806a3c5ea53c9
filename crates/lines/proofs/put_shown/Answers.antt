-- `lines::put_shown` meets its contract. Rests on text's Written.
use native.Mathlib.Omega.{arith}
use borrow.Author.Rules.{rules}
use mir.Syntax.{w64}
use mir.Val.{SFits}
use mir.Facts.{to_z-of_z}
use Rattle.text.proofs.Written.{then, wider}
use Rattle.lines.proofs.put_shown.Goals as goal
use Rattle.lines.proofs.put_shown.Goals.{in-Some, in-None}

pub returns : goal.returns
returns c =
    elim c.match-number.branch [
      | in-Some w ↦ let f : SFits w64 w.in-Some.number = search rules in rw w.in-Some.is (then (rw (to_z-of_z f) at w.put_signed.ensures) (rw w.text-is at c.put_byte-2.ensures))
      | in-None w ↦ rw w.in-None.is (wider (then w.put_byte.ensures (rw w.text-is at c.put_byte-2.ensures)) 22 (omega arith))
    ]
