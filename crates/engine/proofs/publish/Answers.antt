-- `engine::publish` meets its contract where there is a verdict's cell. Rests on Placed and the machine's Tested.
use mathlib.Core.Path.{◌∙◌, ap}
use Rattle.fields.specs.Fields.{bits_of}
use Rattle.machine.proofs.Tested.{kept}
use Rattle.engine.proofs.Placed.{published_cell}
use Rattle.engine.proofs.publish.Goals as goal

pub returns-in-Some : goal.returns-in-Some
returns-in-Some c = published_cell _ _ _ c.in-Some.is _ _ _ (c.bits.ensures ∙ ap (bits_of 64) (kept _ c.bits-arg-1.given))
