-- The runner (document 01, "Who caused it": the sender of a foreign plan): what it refuses, and what it answers and leaves.
-- Rests on logs, depths and refusals.
use Rattle.std.specs.Prelude.{◌≡◌, Bool, not, ◌||◌, cond, List, [], ◌∷◌, ℕ, suc, ◌+◌, leb, ℤ, length, get_or, take, drop, Result, Ok, Err, Some, None}
use Rattle.std.proofs.Math.Option.{Option, none, some}
use Rattle.lists.specs.Buffers.{overwritten}
use Rattle.std.specs.declared.option.Option as Code
use Rattle.answers.specs.declared.Refusal as Answers
use Rattle.answers.specs.Refusal.{Refusal, Log, Operation, need, or_else, rule_of}
use Rattle.answers.specs.Told.{Told, refused}
use Rattle.machine.specs.Word.{admissible}
use Rattle.machine.specs.Log.{opens, cells_after, log_of, sum_of}
use Rattle.machine.specs.Depth.{charge_of}
use Rattle.runner.specs.declared.PlanReport.{PlanReport}

-- ---- refusals

-- A word at a place that a bank of `count` cells cannot carry out, or that is past the last place.
abbrev pub bad_at : (count place word : ℕ) → Bool
bad_at count place w = not (admissible count w) || leb 16777216 place

-- The lowest bad place of words, the first of which is at `place`.
unfoldable pub first_bad : (count place : ℕ) → List ℕ → Option ℕ
first_bad count place [] = none
first_bad count place (w ∷ ws) = cond (bad_at count place w) (some place) (first_bad count (suc place) ws)

-- A place as the code has it.
abbrev pub found_of : Option ℕ → Code.Option ℕ
found_of none = None
found_of (some k) = Some k

-- How many words the log of a plan has: each word, and the published cell after each OPEN.
unfoldable pub log_size : (plan : List ℕ) → ℕ
log_size plan = length plan + sum_of (λ w. cond (opens w) 1 0) (drop 1 plan)

abbrev pub operation_at : Option ℕ → Option Refusal
operation_at none = none
operation_at (some place) = some (Operation place)

-- 9 with the lowest place, then 7. Places count from the header, itself never tested.
unfoldable pub runner_refusal : (plan : List ℕ) (count room : ℕ) → Option Refusal
runner_refusal plan count room =
    or_else (operation_at (first_bad count 1 (drop 1 plan))) (need (leb (log_size plan) room) Log none)

-- ---- a plan carried out

-- What a plan's words, each carried out once and in order, leave in the cells and write to the log.
pub record CarriedOut (plan : List ℕ) (cells₀ : List ℤ) (log₀ : List ℕ) (cells : List ℤ) (log : List ℕ) : Type 0 where
  pub cells_left_are : cells ≡ cells_after (drop 1 plan) cells₀
  pub log_left : log ≡ overwritten (log_of plan cells₀) log₀

-- ---- the outcome: the answer and the two lent buffers

-- What an answer says, in document 01's number, place and values: of a run, rounds and log length.
abbrev pub told_by_plan : Result PlanReport Answers.Refusal → Told
told_by_plan (Ok t) = record { number = 0; place = none; values = t.rounds ∷ t.length ∷ [] }
told_by_plan (Err r) = refused (rule_of r)

pub record PlanOutcome : Type 0 where
  pub answer : Told
  pub cells : List ℤ
  pub log : List ℕ

-- By the refusal met: a run reports its log's charge and length; a refusal changes no buffer.
abbrev pub plan_outcome_by : Option Refusal → (plan : List ℕ) (cells : List ℤ) (log : List ℕ) → PlanOutcome
plan_outcome_by none plan cells log =
    record {
      answer = record { number = 0; place = none; values = charge_of (log_of plan cells) ∷ length (log_of plan cells) ∷ [] };
      cells = cells_after (drop 1 plan) cells;
      log = overwritten (log_of plan cells) log;
    }
plan_outcome_by (some r) plan cells log = record { answer = refused r; cells = cells; log = log }

unfoldable pub plan_outcome : (plan : List ℕ) (cells : List ℤ) (log : List ℕ) → PlanOutcome
plan_outcome plan cells log = plan_outcome_by (runner_refusal plan (length cells) (length log)) plan cells log

-- What was told of a run: its rounds and its log's length; and the log, that many words from the start of the log buffer. Of any outcome, and of
-- the run's.
module _ (o : PlanOutcome) where
  abbrev pub plan_rounds_in : ℕ
  plan_rounds_in = get_or o.answer.values 0 0

  abbrev pub plan_length_in : ℕ
  plan_length_in = get_or o.answer.values 1 0

  abbrev pub plan_log_in : List ℕ
  plan_log_in = take plan_length_in o.log

module _ (plan : List ℕ) (cells : List ℤ) (log : List ℕ) where
  abbrev pub plan_rounds : ℕ
  plan_rounds = plan_rounds_in (plan_outcome plan cells log)

  abbrev pub plan_length : ℕ
  plan_length = plan_length_in (plan_outcome plan cells log)

  abbrev pub plan_log : List ℕ
  plan_log = plan_log_in (plan_outcome plan cells log)

-- The answer and both buffers are the outcome's.
pub record MetPlan (o : PlanOutcome) (answer : Result PlanReport Answers.Refusal) (cells : List ℤ) (log : List ℕ) : Type 0 where
  pub answers : told_by_plan answer ≡ o.answer
  pub cells_left_are : cells ≡ o.cells
  pub log_left : log ≡ o.log
