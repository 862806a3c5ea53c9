-- What the runner answers and leaves, by the ways out of `run_plan`. Rests on Sized, Foreign, PlanWithin, Worked and machine's Replayed.
use mathlib.Core.Path.{◌≡◌, refl, ap, ◌∙◌}
use mathlib.Core.List.{List, ◌++◌}
use mathlib.Core.Option.{Option, none, some}
use Prim.Native.Nat.{ℕ, ◌^◌, ◌<◌, ◌≤◌}
use native.Mathlib.Omega.{arith}
use lib.IntN.{ℤ}
use lib.ListN.{length, drop}
use borrow.Author.Tests.{le-leb, lt-leb}
use Rattle.lists.specs.Buffers.{overwritten}
use Rattle.std.specs.Prelude.{Ok, Err, Some, None}
use Rattle.answers.specs.declared.Refusal as Answers
use Rattle.answers.specs.declared.Refusal.TheVariants as Fault
use Rattle.answers.specs.Refusal.{rule_of}
use Rattle.machine.specs.Log.{Admitted, cells_after, log_of}
use Rattle.machine.proofs.Replayed.{charge_log}
use Rattle.deepening.specs.Worked.{WorkedOut}
use Rattle.runner.specs.Runner.{first_bad, found_of, log_size, runner_refusal, CarriedOut, plan_outcome, MetPlan}
use Rattle.runner.proofs.Sized.{log_size_is}
use Rattle.runner.proofs.Foreign.{admitted, refused_plan}
use Rattle.runner.proofs.PlanWithin.{allowed_from, few_words}
use Rattle.runner.proofs.Worked.{shorter, kept_further}

some_of : (o : Option ℕ) (k : ℕ) → Some k ≡ found_of o → o ≡ some k
some_of none k e = let z : ◌≡◌ {A = ℕ} 0 1 = cc in let no : ⊥ = omega arith in absurd no
some_of (some j) k e = cc

none_of : (o : Option ℕ) → None ≡ found_of o → o ≡ none
none_of none e = refl
none_of (some j) e = let z : ◌≡◌ {A = ℕ} 0 1 = cc in let no : ⊥ = omega arith in absurd no

module _ (plan : List ℕ) (cells : List ℤ) (log : List ℕ) where
  refused : (r : Answers.Refusal) → runner_refusal plan (length cells) (length log) ≡ some (rule_of r)
      → MetPlan (plan_outcome plan cells log) (Err r) cells log
  refused r e = rw (refused_plan plan cells log (rule_of r) e) (record { answers = refl; cells_left_are = refl; log_left = refl })

  pub bad_word : (place : ℕ) → Some place ≡ found_of (first_bad (length cells) 1 (drop 1 plan))
      → MetPlan (plan_outcome plan cells log) (Err (Fault.Operation place)) cells log
  unfolding runner_refusal
  bad_word place e = refused (Fault.Operation place) (rw (some_of (first_bad (length cells) 1 (drop 1 plan)) place e))

  module _ (fine : None ≡ found_of (first_bad (length cells) 1 (drop 1 plan))) (size : ℕ) (is : size ≡ log_size plan) where
    clear : first_bad (length cells) 1 (drop 1 plan) ≡ none
    clear = none_of (first_bad (length cells) 1 (drop 1 plan)) fine

    pub too_short : length log < size → MetPlan (plan_outcome plan cells log) (Err Fault.Log) cells log
    unfolding runner_refusal
    too_short l = refused Fault.Log (rw (clear, lt-leb (log_size plan) (length log) (omega arith)))

    -- So few words that `rounds_of` can work their depths out, in a log so long.
    pub can_work_out : size ≤ length log
        → Admitted (length cells) (drop 1 plan) × (length plan ≤ 2 ^ 24) × (length plan ≤ length log)
    unfolding log_size
    can_work_out l =
        (admitted plan (length cells) clear, few_words plan (length cells) (allowed_from plan (length cells) clear), omega arith)

    -- What `rounds_of` leaves: the cells, and a log as long.
    module _ (l : size ≤ length log) {rounds : ℕ} {cells₁ : List ℤ} {log₁ : List ℕ} (worked : WorkedOut (drop 1 plan) cells log rounds cells₁ log₁) where
      pub can_carry : length log₁ ≡ length log → Admitted (length cells₁) (drop 1 plan) × (length (log_of plan cells₁) ≤ length log₁)
      can_carry long = rw worked.cells_stay (admitted plan (length cells) clear, omega (arith, log_size_is plan cells))

      -- Then `carry_plan` has carried the plan out on them.
      pub ran : {cells' : List ℤ} {log' : List ℕ} → CarriedOut plan cells₁ log₁ cells' log'
          → MetPlan (plan_outcome plan cells log) (Ok (record { rounds = rounds; length = size })) cells' log'
      unfolding runner_refusal plan_outcome log_size
      ran done =
          let r : runner_refusal plan (length cells) (length log) ≡ none
          = rw (clear, le-leb (log_size plan) (length log) (omega arith)) in
          rw r
          (record {
            answers = rw (worked.charged, is, charge_log plan cells, log_size_is plan cells);
            cells_left_are = done.cells_left_are ∙ ap (cells_after (drop 1 plan)) worked.cells_stay;
            log_left =
                done.log_left
                ∙ ap (λ (cells : List ℤ). overwritten (log_of plan cells) log₁) worked.cells_stay
                ∙ ap (λ (rest : List ℕ). log_of plan cells ++ rest)
                (kept_further log log₁ (length (drop 1 plan)) (length (log_of plan cells)) (omega (arith, log_size_is plan cells, shorter plan)) worked.log_beyond);
          })
