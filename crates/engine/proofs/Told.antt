-- What an answer of `run` tells is what its report or its failure tells. Rests on the definitions alone.
use mathlib.Core.Path.{◌≡◌, refl}
use Rattle.std.specs.Prelude.{Ok, Err}
use Rattle.answers.specs.Told.{told_in}
use Rattle.engine.specs.Answer.{Answer, told_by_run}

pub by_run : (answer : Answer) → told_in (λ r. told_by_run (Ok r)) (λ e. told_by_run (Err e)) answer ≡ told_by_run answer
by_run (Ok r) = refl
by_run (Err e) = refl
