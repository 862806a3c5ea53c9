-- `requests::check_entry` meets its contract: a law for each way out. Rests on Words.
use Rattle.limits.proofs.Words.{entry_by_weight, spare_entry}
use Rattle.requests.proofs.check_entry.Goals as goal

pub returns-then-field-ne0 : goal.returns-then-field-ne0
returns-then-field-ne0 c = search spare_entry

pub returns : goal.returns
returns c = search entry_by_weight
