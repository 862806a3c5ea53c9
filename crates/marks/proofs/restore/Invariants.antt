-- `marks::restore` meets its contract: what is left to put back gives the cells. Rests on Marks.
use mathlib.Core.Path.{◌≡◌}
use lib.ListN.{length}
use Rattle.marks.specs.Place.{undone}
use Rattle.marks.proofs.restore.Given as goal

abbrev pub invariant-loop-k : goal.invariant-loop-k
invariant-loop-k l =
    (length l.cells ≡ length l.initial.cells) × (undone l.words l.log l.k l.cells ≡ undone l.words l.log (length l.words) l.initial.cells)
