-- What `engine::carry` asks and promises: the plan of a header written to the log, carried out and charged.
-- Rests on plans and logs.
use Rattle.std.specs.Prelude.{◌≡◌, List, ℕ, ◌≤◌, ℤ, length, drop}
use Rattle.lists.specs.Buffers.{overwritten}
use Rattle.machine.specs.Log.{cells_after, log_of}
use Rattle.machine.specs.Depth.{charge_of}
use Rattle.plans.specs.declared.Header.{Header}
use Rattle.plans.specs.Plan.{plan_of, cells_of}
use Rattle.runner.specs.declared.PlanReport.{PlanReport}

-- Room for the run of an accepted header in the cells and in the log.
pub record Ready (h : Header) (cells : List ℤ) (log : List ℕ) : Type 0 where
  pub cells_enough : cells_of h ≤ length cells
  pub log_enough : length (log_of (plan_of h) cells) ≤ length log

-- The report, the cells and the log that its plan leaves.
pub record Carried (h : Header) (cells₀ : List ℤ) (log₀ : List ℕ) (report : PlanReport) (cells : List ℤ) (log : List ℕ) : Type 0 where
  pub charged : report.rounds ≡ charge_of (log_of (plan_of h) cells₀)
  pub length_is : report.length ≡ length (log_of (plan_of h) cells₀)
  pub cells_left_are : cells ≡ cells_after (drop 1 (plan_of h)) cells₀
  pub log_left : log ≡ overwritten (log_of (plan_of h) cells₀) log₀
