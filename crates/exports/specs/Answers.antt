-- Answers for callers that know only numbers (docs/CALLING.md), and what calls leave in lent buffers: the outcome that `run`, `run_plan`,
-- `write_plan` and `convert` promise, by the same definitions. Rests on those.
use Rattle.std.specs.Prelude.{◌≡◌, List, [], ◌∷◌, ℕ, ℤ, length, get_or}
use Rattle.std.proofs.Math.Option.{Option, none, some}
use Rattle.answers.specs.Told.{Told}
use Rattle.plans.specs.Plan.{Kind}
use Rattle.planner.specs.Written.{plan_refusal, plan_words, answer_of, buffer_of}
use Rattle.runner.specs.Runner.{PlanOutcome}
use Rattle.saved.specs.Saved.{ConversionOutcome}
use Rattle.demands.specs.Run.{Outcome}

-- Whether there is a place, and the place.
abbrev pub place_numbers : Option ℕ → (rest : List ℕ) → List ℕ
place_numbers none rest = 0 ∷ 0 ∷ rest
place_numbers (some place) rest = 1 ∷ place ∷ rest

-- Eight numbers: the refusal's, 0 where there is none; the place; and up to five values, 0 where there is none.
abbrev pub numbers_of : Told → List ℕ
numbers_of t =
    t.number
    ∷ place_numbers t.place
    (get_or t.values 0 0 ∷ get_or t.values 1 0 ∷ get_or t.values 2 0 ∷ get_or t.values 3 0 ∷ get_or t.values 4 0 ∷ [])

pub record LeftByRun (o : Outcome) (answer : List ℕ) (cells : List ℤ) (log : List ℕ) (results : Kind → List ℤ) : Type 0 where
  pub answers : answer ≡ numbers_of o.answer
  pub cells_left_are : cells ≡ o.cells
  pub log_left : log ≡ o.log
  pub results_left : (k : Kind) → results k ≡ o.results k

pub record LeftByPlan (o : PlanOutcome) (answer : List ℕ) (cells : List ℤ) (log : List ℕ) : Type 0 where
  pub answers : answer ≡ numbers_of o.answer
  pub cells_left_are : cells ≡ o.cells
  pub log_left : log ≡ o.log

pub record LeftByWriting (header buffer answer after : List ℕ) : Type 0 where
  pub answers : answer ≡ numbers_of (answer_of (plan_refusal header (length buffer)) (plan_words header))
  pub leaves : after ≡ buffer_of (plan_refusal header (length buffer)) (plan_words header) buffer

pub record LeftByConversion (o : ConversionOutcome) (answer : List ℕ) (saved : List ℤ) : Type 0 where
  pub answers : answer ≡ numbers_of o.answer
  pub words : saved ≡ o.saved
