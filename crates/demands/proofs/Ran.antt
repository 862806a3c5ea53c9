-- The outcome of a request that ran, by its verdict; what its parts are whichever the verdict; and its log.
-- Rests on what a run leaves and on the log of a header's plan.
use mathlib.Core.Path.{◌≡◌, refl, sym, ap, ◌∙◌}
use mathlib.Core.Logic.{◌⊎◌, inl, inr}
use mathlib.Core.List.{List, ◌++◌}
use mathlib.Core.Option.{Option, none, some}
use Prim.Native.Nat.{ℕ}
use lib.IntN.{ℤ}
use lib.ListN.{length, get_or}
use lib.Seq.{take-append_seam}
use Rattle.lists.specs.Buffers.{overwritten}
use Rattle.lists.proofs.Test.{by_test}
use Rattle.machine.specs.Effect.{is_zero, cell_at}
use Rattle.machine.specs.Depth.{charge_of}
use Rattle.plans.specs.declared.Header.{Header}
use Rattle.plans.specs.Plan.{Accepted, plan_of, verdict_cell, published}
use Rattle.limits.specs.Refusal.{log_length_of}
use Rattle.limits.specs.WithinLimits.{header_in, words_in, WithinLimits}
use Rattle.limits.proofs.WithinLimits.{accepted_in, within}
use Rattle.demands.specs.Run.{Lent, lengths_of, Outcome, start_of, log_of_run, cells_left, verdict_at, verdict_of, verdict_of_run, ran_by, outcome}
use Rattle.demands.specs.Demands.{RanOn, rounds_told, length_told, verdict_told, log_told}
use Rattle.demands.proofs.Logs.{log_plan, log_length_is}
use Rattle.demands.proofs.Left.{Left}
use Rattle.demands.proofs.Taken.{ends}

verdict_at_is : (cell : Option ℕ) (left : List ℤ) → (verdict_at cell left ≡ 0) ⊎ (verdict_at cell left ≡ 1)
verdict_at_is none left = inl refl
verdict_at_is (some cell) left = by_test (is_zero (cell_at left cell)) (λ e. inl (rw e)) (λ e. inr (rw e))

pub verdict_of_is : (h : Header) (left : List ℤ) → (verdict_of h left ≡ 0) ⊎ (verdict_of h left ≡ 1)
unfolding verdict_of
verdict_of_is h left = verdict_at_is (verdict_cell h) left

module _ (request : List ℕ) (lent : Lent) (ran : RanOn request lent) where
  pub inside : WithinLimits request (lengths_of lent)
  inside = (within request _).0 ran

  pub allowed : Accepted (header_in request)
  allowed = accepted_in _ _ inside

  pub leaves : Left (header_in request) (words_in request) (start_of request lent) (cells_left request lent)
  leaves = ends request lent inside

  -- ---- the outcome

  pub ended : (v : ℕ) → verdict_of_run request lent ≡ v → outcome request lent ≡ ran_by v request lent
  unfolding outcome
  ended v e = rw (ran, e)

  pub by_verdict : (P : Outcome → Type 0)
      → (verdict_of_run request lent ≡ 0 → P (ran_by 0 request lent))
      → (verdict_of_run request lent ≡ 1 → P (ran_by 1 request lent))
      → P (outcome request lent)
  by_verdict P zero one =
      elim (verdict_of_is (header_in request) (cells_left request lent)) [
        | inl e ↦ rw (ended 0 e) (zero e)
        | inr e ↦ rw (ended 1 e) (one e)
      ]

  pub cells_are : (outcome request lent).cells ≡ cells_left request lent
  cells_are = by_verdict (λ o. o.cells ≡ cells_left request lent) (λ e. refl) (λ e. refl)

  pub log_is : (outcome request lent).log ≡ overwritten (log_of_run request lent) lent.log
  log_is = by_verdict (λ o. o.log ≡ overwritten (log_of_run request lent) lent.log) (λ e. refl) (λ e. refl)

  pub rounds_are : rounds_told request lent ≡ charge_of (log_of_run request lent)
  rounds_are = by_verdict (λ o. get_or o.answer.values 0 0 ≡ charge_of (log_of_run request lent)) (λ e. refl) (λ e. refl)

  length_is : length_told request lent ≡ length (log_of_run request lent)
  length_is = by_verdict (λ o. get_or o.answer.values 1 0 ≡ length (log_of_run request lent)) (λ e. refl) (λ e. refl)

  pub verdict_is : verdict_told request lent ≡ verdict_of_run request lent
  verdict_is = by_verdict (λ o. get_or o.answer.values 2 0 ≡ verdict_of_run request lent) sym sym

  -- ---- its log

  pub log_told_is : log_told request lent ≡ log_of_run request lent
  log_told_is = rw (length_is, log_is) (take-append_seam (log_of_run request lent) _)

  -- The plan and, where there is a cell for it, the verdict.
  pub log_published : log_told request lent
      ≡ plan_of (header_in request) ++ published (verdict_cell (header_in request)) (verdict_told request lent)
  log_published =
      log_told_is
      ∙ log_plan (header_in request) allowed (start_of request lent)
      ∙ ap (λ l. plan_of (header_in request) ++ l) leaves.opened
      ∙ rw verdict_is

  pub log_long : length (log_of_run request lent) ≡ log_length_of (header_in request)
  log_long = log_length_is (header_in request) allowed (start_of request lent)

  pub length_figure : length_told request lent ≡ log_length_of (header_in request)
  length_figure = length_is ∙ log_long

  pub length_whole : length (log_told request lent) ≡ length_told request lent
  length_whole = ap length log_told_is ∙ sym length_is
