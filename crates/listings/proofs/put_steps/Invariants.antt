-- `listings::put_steps` meets its contract: before place k, those before it are written. Rests on Repeated.
use Prim.Native.Nat.{◌*◌}
use Rattle.text.specs.Appended.{Appended}
use Rattle.printing.specs.Texts.{steps_text}
use Rattle.listings.proofs.put_steps.Given as goal

abbrev pub invariant-loop-edge : goal.invariant-loop-edge
invariant-loop-edge l = Appended (22 * l.edge-index) (steps_text l.edge-index l.route) l.initial.text l.text
