-- `runner::bad` meets its contract. Rests on the definitions alone.
use borrow.Author.Tests.{le-leb, lt-leb}
use mathlib.Core.Bool.{or-true, or-false}
use Rattle.runner.proofs.bad.Goals as goal

pub returns-then-place-ge-PLACES : goal.returns-then-place-ge-PLACES
returns-then-place-ge-PLACES c = rw (le-leb _ _ c.if-place-ge-PLACES.true, or-true)

pub returns : goal.returns
returns c = rw (lt-leb _ _ c.if-place-ge-PLACES.false, or-false, c.admits.ensures)
