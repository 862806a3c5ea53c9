-- `requests::weight` meets its contract, from those of `field` and `signed`. Rests on the machine's Tested.
use mathlib.Core.Path.{◌∙◌}
use Rattle.machine.proofs.Tested.{kept}
use Rattle.limits.specs.Word.{weight_of}
use Rattle.requests.proofs.weight.Goals as goal

pub returns : goal.returns
unfolding weight_of
returns c = kept _ c.signed.type_inv ∙ c.signed.ensures ∙ rw c.field.ensures.0
