-- `ops::step` meets its contract: `step_fields` on the word's fields. Rests on machine's Parted and Admitted.
use Rattle.std.proofs.Common.{◌∙◌}
use Rattle.machine.proofs.Admitted.{op_below}
use Rattle.machine.proofs.Parted.{admitted_fields, carried_fields}
use Rattle.ops.proofs.step.Goals as goal

pub of-w-requires : goal.of-w-requires
of-w-requires c = op_below _ _ _ _ _ c.requires

pub step_fields-requires : goal.step_fields-requires
step_fields-requires c = admitted_fields c.of-w.ensures _ c.requires

pub returns : goal.returns
returns c = c.step_fields.ensures ∙ carried_fields c.of-w.ensures _
