-- `Text::put_numbers` meets its contract: before number i, the line of those from i on is left. Rests on Written and Lines.
use native.Mathlib.Omega.{arith}
use Rattle.text.proofs.Written.{then, again, finish}
use Rattle.text.proofs.Lines.{next_number, none_left}
use Rattle.text.proofs.Text.put_numbers.Goals as goal

pub loop-i-preserved : goal.loop-i-preserved
loop-i-preserved c =
    again c.loop-i.invariant _ (omega arith) (next_number c.args.numbers.now c.loop-i.i (omega arith))
    (then c.put_number.ensures (rw c.after_word.ensures at c.put_byte.ensures))

pub returns : goal.returns
returns c = finish c.loop-i.invariant _ (omega arith) (none_left c.args.numbers.now c.loop-i.i (omega arith))
