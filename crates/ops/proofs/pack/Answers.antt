-- `ops::pack` meets its contract: three joins. Rests on that of `join`.
use Rattle.machine.specs.Word.{packed}
use Rattle.ops.proofs.pack.Goals as goal

pub returns : goal.returns
unfolding packed
returns c = rw (c.join-3.ensures, c.join-2.ensures, c.join.ensures)
