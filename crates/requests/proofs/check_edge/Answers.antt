-- `requests::check_edge` meets its contract: a law for each way out. Rests on Words.
use Rattle.limits.proofs.Words.{spare_edge, from_high, to_high, edge_by_weight}
use Rattle.requests.proofs.check_edge.Goals as goal

pub returns-then-field-ne0 : goal.returns-then-field-ne0
returns-then-field-ne0 c = search spare_edge

pub returns-then-n-field : goal.returns-then-n-field
returns-then-n-field c = search from_high

pub returns-then-n-field-2 : goal.returns-then-n-field-2
returns-then-n-field-2 c = search to_high

pub returns : goal.returns
returns c = search edge_by_weight
