-- `requests::check_weight` meets its contract: a law for each way out. Rests on Words.
use Rattle.limits.proofs.Words.{weight_low, weight_high, weight_good}
use Rattle.requests.proofs.check_weight.Goals as goal
use Rattle.requests.proofs.check_weight.Goals.{then-value-least-via-then-value-least, then-value-least-via-else-value-least+then-value-gt-MOST_WEIGHT}

pub returns-then-value-least : goal.returns-then-value-least
returns-then-value-least c =
    elim c.then-value-least.branch [
      | then-value-least-via-then-value-least w ↦ search weight_low
      | then-value-least-via-else-value-least+then-value-gt-MOST_WEIGHT w ↦ search weight_high
    ]

pub returns : goal.returns
returns c = search weight_good
