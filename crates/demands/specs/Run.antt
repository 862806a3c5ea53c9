-- What a request's run answers, and what it leaves in each lent buffer. Rests on limits, intake, plans and logs.
use Rattle.std.specs.Prelude.{cond, List, [], ◌∷◌, ℕ, zero, suc, ◌+◌, ◌<◌, ℤ, length, drop}
use Rattle.std.proofs.Math.Option.{Option, none, some}
use Rattle.lists.specs.Buffers.{overwritten}
use Rattle.answers.specs.Refusal.{Refusal}
use Rattle.answers.specs.Told.{Told, refused}
use Rattle.fields.specs.Fields.{bits_of}
use Rattle.machine.specs.Effect.{is_zero, cell_at}
use Rattle.machine.specs.Log.{cells_after, log_of}
use Rattle.machine.specs.Depth.{charge_of}
use Rattle.plans.specs.declared.Header.{Header}
use Rattle.plans.specs.Plan.{plan_of, verdict_cell, Kind, distances, parents, route, results_of}
use Rattle.limits.specs.declared.Lengths.{Lengths}
use Rattle.limits.specs.Refusal.{request_refusal}
use Rattle.limits.specs.WithinLimits.{header_in, words_in}
use Rattle.intake.specs.Intake.{copied, starting_cells}

-- ---- the request and what is lent

-- Cells, a log, and a buffer for each kind of results.
pub record Lent : Type 0 where
  pub cells : List ℤ
  pub log : List ℕ
  pub results : Kind → List ℤ

abbrev pub lengths_of : Lent → Lengths
lengths_of lent =
    record {
      cells = length lent.cells;
      log = length lent.log;
      distances = length (lent.results distances);
      parents = length (lent.results parents);
      route = length (lent.results route);
    }

abbrev pub refusal_of : (request : List ℕ) → Lent → Option Refusal
refusal_of request lent = request_refusal request (lengths_of lent)

-- ---- the run

-- The verdict that a cell holds, 0 where there is none; and the word that is published of it.
abbrev pub verdict_at : Option ℕ → (left : List ℤ) → ℕ
verdict_at none left = 0
verdict_at (some cell) left = cond (is_zero (cell_at left cell)) 0 1

abbrev pub opened_at : Option ℕ → (left : List ℤ) → List ℕ
opened_at none left = []
opened_at (some cell) left = bits_of 64 (cell_at left cell) ∷ []

-- The cell, where there is one, is among the first `count`.
abbrev pub There : Option ℕ → (count : ℕ) → Type 0
There none count = Unit {0}
There (some cell) count = cell < count

unfoldable pub verdict_of : Header → List ℤ → ℕ
verdict_of h left = verdict_at (verdict_cell h) left

module _ (request : List ℕ) (lent : Lent) where
  -- The cells that the run starts from, its log, and the cells that it leaves.
  abbrev pub start_of : List ℤ
  start_of = starting_cells (header_in request) (words_in request) lent.cells

  abbrev pub log_of_run : List ℕ
  log_of_run = log_of (plan_of (header_in request)) start_of

  abbrev pub cells_left : List ℤ
  cells_left = cells_after (drop 1 (plan_of (header_in request))) start_of

  abbrev pub verdict_of_run : ℕ
  verdict_of_run = verdict_of (header_in request) cells_left

-- ---- the outcome: the answer and the lent buffers

pub record Outcome : Type 0 where
  pub answer : Told
  pub cells : List ℤ
  pub log : List ℕ
  pub results : Kind → List ℤ

-- By the verdict: with none the results are copies of cells at places that the header fixes; with a negative cycle there are none, and 12.
abbrev pub ran_by : (verdict : ℕ) (request : List ℕ) → Lent → Outcome
ran_by zero request lent =
    record {
      answer = record { number = 0; place = none; values = charge_of (log_of_run request lent) ∷ length (log_of_run request lent) ∷ 0 ∷ [] };
      cells = cells_left request lent;
      log = overwritten (log_of_run request lent) lent.log;
      results = λ k.
          copied (results_of (header_in request) k).count
          (λ i. cell_at (cells_left request lent) ((results_of (header_in request) k).first + i)) (lent.results k);
    }
ran_by (suc more) request lent =
    record {
      answer = record { number = 12; place = none; values = charge_of (log_of_run request lent) ∷ length (log_of_run request lent) ∷ 1 ∷ [] };
      cells = cells_left request lent;
      log = overwritten (log_of_run request lent) lent.log;
      results = lent.results;
    }

-- A refusal is told, and no lent buffer changes.
abbrev pub refused_by : Refusal → Lent → Outcome
refused_by r lent = record { answer = refused r; cells = lent.cells; log = lent.log; results = lent.results }

-- By the refusal met; 12 is none of these, it comes after a run.
abbrev pub outcome_by : Option Refusal → (request : List ℕ) → Lent → Outcome
outcome_by none request lent = ran_by (verdict_of_run request lent) request lent
outcome_by (some r) request lent = refused_by r lent

unfoldable pub outcome : (request : List ℕ) → Lent → Outcome
outcome request lent = outcome_by (refusal_of request lent) request lent
