-- `exports::vukstaja_write_plan` meets its contract. Rests on Told.
use mathlib.Core.Path.{◌∙◌, ap}
use Rattle.exports.specs.Answers.{numbers_of}
use Rattle.exports.proofs.Told.{by_writing}
use Rattle.exports.proofs.vukstaja_write_plan.Goals as goal

pub returns : goal.returns
returns c =
    let m = c.write_plan.ensures in
    record { answers = c.numbers.ensures ∙ ap numbers_of (by_writing _ ∙ m.answers); leaves = m.leaves }
