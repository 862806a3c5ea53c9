-- `requests::lengths_of` meets its contract. Rests on Sizes.
use Rattle.limits.proofs.Sizes.{lengths_are}
use Rattle.requests.proofs.lengths_of.Goals as goal

pub returns : goal.returns
returns c = lengths_are _ _ c.requires _ c.log_length.ensures
