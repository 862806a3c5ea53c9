-- What the code's test leaves out: a line where `!all && distance == FAR`.
-- Rests on the machine's Tested and lists' Test.
use mathlib.Core.Path.{◌≡◌}
use mathlib.Core.Bool.{Bool, true, not}
use borrow.Author.Tests.{eqb-true, eqb-false}
use lib.Dec.{eqb}
use lib.IntN.{ℤ}
use mir.Syntax.{w64}
use mir.Val.{SFits, of_z}
use mir.Facts.{sfits_lit}
use Rattle.lists.proofs.Test.{by_test}
use Rattle.machine.proofs.Tested.{eq_test, ne_test}
use Rattle.plans.specs.Limits.{far}
use Rattle.printing.specs.Texts.{left_out}

-- The code's test where `all` is not asked for: a law named in docs/PORT.md, though the check now finds as much alone.
pub left_out_is : (all : Bool) (z : ℤ) → not all ≡ true → SFits w64 z → eqb (of_z w64 z) (of_z w64 far) ≡ left_out all z
left_out_is all z a f =
    by_test (eqb (of_z w64 z) (of_z w64 far))
    (λ e. rw (e, a, eq_test z far f (sfits_lit tt) (eqb-true (of_z w64 z) (of_z w64 far) e)))
    (λ e. rw (e, a, ne_test z far (eqb-false (of_z w64 z) (of_z w64 far) e)))
