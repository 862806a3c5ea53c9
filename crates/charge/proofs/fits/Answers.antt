-- `charge::fits` meets its contract: what `all` tells of the words. Rests on Fitting.
use Rattle.std.proofs.Common.{◌≡◌, true, false, rules}
use Rattle.std.proofs.lemmas.Iterator.{cases_from_all, YieldsList-from_slice}
use borrow.Author.Tests.{tests}
use Rattle.machine.specs.Word.{admissible}
use Rattle.charge.proofs.Fitting.{enough_by}
use Rattle.charge.proofs.fits.Goals as goal

pub returns : goal.returns
returns c =
    let n = c.args.count in
    let ws = c.args.words.now in
    enough_by n ws c.all.result
    (cases_from_all _ _ _ (λ w. admissible n w ≡ true) (λ w. admissible n w ≡ false) c.all.ensures.ran (YieldsList-from_slice ws cc)
    (λ x q k. search (rules, tests)) (λ x q k. search (rules, tests)))
