-- `ops::constant` meets its contract, from those of `join` and `signed`. Rests on Tested.
use Rattle.std.proofs.Common.{ap, ◌∙◌}
use Rattle.fields.specs.Fields.{signed_of}
use Rattle.machine.proofs.Tested.{kept}
use Rattle.ops.proofs.constant.Goals as goal

pub returns : goal.returns
returns c = kept _ c.signed.type_inv ∙ c.signed.ensures ∙ ap (signed_of 40) c.join.ensures
