-- What an answer of `run` says, and that an answer and the lent buffers are an outcome's. Rests on the outcome of a run.
use Rattle.std.specs.Prelude.{◌≡◌, Result, Ok, Err, List, [], ◌∷◌, ℕ, ℤ}
use Rattle.std.proofs.Math.Option.{none}
use Rattle.answers.specs.Refusal.{rule_of}
use Rattle.answers.specs.Told.{Told, refused}
use Rattle.plans.specs.Plan.{Kind}
use Rattle.demands.specs.Run.{Outcome}
use Rattle.engine.specs.declared.answer.Report.{Report}
use Rattle.engine.specs.declared.answer.Failure.{Failure}
use Rattle.engine.specs.declared.answer.Failure.TheVariants.{NegativeCycle, Refused}

-- The values of a run: rounds, log length, verdict.
abbrev pub values_of : Report → List ℕ
values_of r = r.rounds ∷ r.log_length ∷ r.verdict ∷ []

-- What `run` answers, and what that says, in document 01's number, place and values.
abbrev pub Answer : Type 0
Answer = Result Report Failure

abbrev pub told_by_run : Answer → Told
told_by_run (Ok r) = record { number = 0; place = none; values = values_of r }
told_by_run (Err (NegativeCycle r)) = record { number = 12; place = none; values = values_of r }
told_by_run (Err (Refused r)) = refused (rule_of r)

-- The answer and the lent buffers are the outcome's.
pub record Met (o : Outcome) (answer : Answer) (cells : List ℤ) (log : List ℕ) (results : Kind → List ℤ) : Type 0 where
  pub answers : told_by_run answer ≡ o.answer
  pub cells_left_are : cells ≡ o.cells
  pub log_left : log ≡ o.log
  pub results_left : (k : Kind) → results k ≡ o.results k
