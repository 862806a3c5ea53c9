-- An answer that is a refusal is told from a run by its number, as a text tells it.
-- Rests on answers' Told and the engine's answers.
use Rattle.std.specs.Prelude.{Ok, Err}
use Rattle.answers.specs.Refusal.{rule_of}
use Rattle.answers.specs.Told.{Apart}
use Rattle.engine.specs.declared.answer.Failure.TheVariants.{NegativeCycle, Refused}
use Rattle.engine.specs.Answer.{Answer}

abbrev pub Distinct : Answer → Type 0
Distinct (Ok r) = Unit {0}
Distinct (Err (NegativeCycle r)) = Unit {0}
Distinct (Err (Refused r)) = Apart (rule_of r)
