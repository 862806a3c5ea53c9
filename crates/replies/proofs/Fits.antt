-- The log that an outcome tells of is no longer than the lent one.
-- Rests on the outcomes of runs.
use mathlib.Core.List.{List}
use mathlib.Core.Option.{Option, none, some}
use Prim.Native.Nat.{ℕ, zero, suc, ◌≤◌}
use native.Mathlib.Omega.{arith}
use lib.ListN.{length, get_or, drop, length-append}
use Rattle.lists.specs.Buffers.{overwritten}
use Rattle.answers.specs.Refusal.{Refusal}
use Rattle.demands.specs.Run.{Lent, log_of_run, verdict_of_run, refusal_of, ran_by, outcome_by, outcome}

overwritten_length : (xs ys : List ℕ) → length xs ≤ length (overwritten xs ys)
overwritten_length xs ys = omega (arith, length-append xs (drop (length xs) ys))

module _ (request : List ℕ) (lent : Lent) where
  ran_log : (verdict : ℕ) → get_or (ran_by verdict request lent).answer.values 1 0 ≤ length (ran_by verdict request lent).log
  ran_log zero = overwritten_length (log_of_run request lent) lent.log
  ran_log (suc more) = overwritten_length (log_of_run request lent) lent.log

  log_by : (met : Option Refusal) → get_or (outcome_by met request lent).answer.values 1 0 ≤ length (outcome_by met request lent).log
  log_by none = ran_log (verdict_of_run request lent)
  log_by (some r) = omega arith

  pub log_fits : get_or (outcome request lent).answer.values 1 0 ≤ length (outcome request lent).log
  unfolding outcome
  log_fits = log_by (refusal_of request lent)
