-- `exports::vukstaja_run_plan` meets its contract. Rests on Told.
use mathlib.Core.Path.{◌∙◌, ap}
use Rattle.exports.specs.Answers.{numbers_of}
use Rattle.exports.proofs.Told.{by_plan}
use Rattle.exports.proofs.vukstaja_run_plan.Goals as goal

pub returns : goal.returns
returns c =
    let m = c.run_plan.ensures in
    record { answers = c.numbers.ensures ∙ ap numbers_of (by_plan _ ∙ m.answers); cells_left_are = m.cells_left_are; log_left = m.log_left }
