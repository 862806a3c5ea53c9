-- `ops::admits` meets its contract: `admits_fields` on the word's fields, where it has an op. Rests on machine's Parted and Admitted.
use Rattle.std.proofs.Common.{sym, ◌∙◌, arith}
use Rattle.machine.proofs.Admitted.{is_over}
use Rattle.machine.proofs.Parted.{admitted}
use Rattle.ops.proofs.admits.Goals as goal

pub returns-in-Some : goal.returns-in-Some
returns-in-Some c = c.admits_fields.ensures ∙ sym (admitted c.in-Some.ensures _)

pub returns-in-None : goal.returns-in-None
returns-in-None c = let l = c.in-None.ensures in sym (is_over _ _ _ _ _ (omega (arith, l)))
