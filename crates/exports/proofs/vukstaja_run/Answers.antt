-- `exports::vukstaja_run` meets its contract. Rests on the engine's Told.
use mathlib.Core.Path.{◌∙◌, ap}
use Rattle.exports.specs.Answers.{numbers_of}
use Rattle.engine.proofs.Told.{by_run}
use Rattle.exports.proofs.vukstaja_run.Goals as goal

pub returns : goal.returns
returns c =
    let m = c.run.ensures in
    record {
      answers = c.numbers.ensures ∙ ap numbers_of (by_run _ ∙ m.answers);
      cells_left_are = m.cells_left_are;
      log_left = m.log_left;
      results_left = m.results_left;
    }
