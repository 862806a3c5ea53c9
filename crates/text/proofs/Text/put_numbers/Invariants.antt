-- `Text::put_numbers` meets its contract: before number i, the line of those from i on is left. Rests on Written and Lines.
use Prim.Native.Nat.{◌*◌}
use lib.ListN.{drop}
use Rattle.text.specs.Text.{numbers_line}
use Rattle.text.proofs.Written.{Writing}
use Rattle.text.proofs.Text.put_numbers.Given as goal

abbrev pub invariant-loop-i : goal.invariant-loop-i
invariant-loop-i l = Writing (21 * l.i) (numbers_line (drop l.i l.numbers)) (numbers_line l.numbers) l.initial.self l.self
