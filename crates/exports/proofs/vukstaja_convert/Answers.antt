-- `exports::vukstaja_convert` meets its contract. Rests on Told.
use mathlib.Core.Path.{◌∙◌, ap}
use Rattle.exports.specs.Answers.{numbers_of}
use Rattle.exports.proofs.Told.{by_conversion}
use Rattle.exports.proofs.vukstaja_convert.Goals as goal

pub returns : goal.returns
returns c =
    let m = c.convert.ensures in
    record { answers = c.numbers.ensures ∙ ap numbers_of (by_conversion _ ∙ m.answers); words = m.words }
