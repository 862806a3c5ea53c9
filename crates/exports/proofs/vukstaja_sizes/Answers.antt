-- `exports::vukstaja_sizes` meets its contract. Rests on Told.
use mathlib.Core.Path.{◌∙◌, ap}
use Rattle.exports.specs.Answers.{numbers_of}
use Rattle.exports.proofs.Told.{by_sizes}
use Rattle.exports.proofs.vukstaja_sizes.Goals as goal

pub returns : goal.returns
returns c = c.numbers.ensures ∙ ap numbers_of (by_sizes _ ∙ c.sizes_needed.ensures)
