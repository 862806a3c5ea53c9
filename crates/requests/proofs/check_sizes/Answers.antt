-- `requests::check_sizes` meets its contract: a law for each way out. Rests on Sizes.
use Rattle.limits.proofs.Sizes.{words_other, cells_short, log_short, results_short, sizes_met}
use Rattle.requests.proofs.check_sizes.Goals as goal

pub returns-then-words-f : goal.returns-then-words-f
returns-then-words-f c = search words_other

pub returns-then-lent-asked : goal.returns-then-lent-asked
returns-then-lent-asked c = search cells_short

pub returns-then-lent-asked-2 : goal.returns-then-lent-asked-2
returns-then-lent-asked-2 c = search log_short

pub returns-then-not-results_enough : goal.returns-then-not-results_enough
returns-then-not-results_enough c = search results_short

pub returns : goal.returns
returns c = search sizes_met
