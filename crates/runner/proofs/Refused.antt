-- A foreign plan is refused by 9 exactly at its first word that is not allowed, and by 7 exactly where every word is allowed and the log is too
-- short. Rests on PlanWithin and answers' Told.
use mathlib.Core.Path.{◌≡◌, refl, sym, ap}
use mathlib.Core.Logic.Iff
use mathlib.Core.Logic.{◌↔◌, ◌⊎◌, inl, inr}
use mathlib.Core.Bool.{Bool, true, false, true≢false}
use mathlib.Core.List.{List, [], ◌∷◌}
use mathlib.Core.Option.{Option, none, some, some-ne-none, some-injective}
use Prim.Native.Nat.{ℕ}
use native.Mathlib.Omega.{arith}
use lib.Dec.{leb}
use lib.IntN.{ℤ}
use lib.ListN.{length, drop}
use borrow.Author.Tests.{lt-leb, leb-true, leb-false}
use Rattle.answers.specs.Refusal.{Refusal, plain, placed, Log, Operation, need, or_else}
use Rattle.answers.specs.Told.{refused}
use Rattle.answers.proofs.Meets.{Meets, some_meets, first_meets}
use Rattle.answers.proofs.Told.{Formed, met_exactly}
use Rattle.runner.specs.Runner.{first_bad, log_size, operation_at, runner_refusal, plan_outcome_by, plan_outcome}
use Rattle.runner.specs.PlanWithin.{PlanWithin, NotAllowedAt, LogShort}
use Rattle.runner.proofs.PlanWithin.{allowed_from, fine_from, bad_from, not_allowed_at}

-- ---- which refusal is met

-- b is the test of the log's room.
module _ (b : Bool) where
  lowest_of : (lowest : Option ℕ) (place : ℕ) → or_else (operation_at lowest) (need b Log none) ≡ some (placed 9 place) → lowest ≡ some place
  lowest_of none place e = absurd (log_alone b e)
    where
      log_alone : (b : Bool) → need b Log none ≡ some (placed 9 place) → ⊥
      log_alone true e = some-ne-none (placed 9 place) (sym e)
      log_alone false e = true≢false (sym (ap (λ r. r.placed) (some-injective Log (placed 9 place) e)))
  lowest_of (some k) place e = ap (λ r. some r.place) (some-injective (Operation k) (placed 9 place) e)

  short_of : (lowest : Option ℕ) → or_else (operation_at lowest) (need b Log none) ≡ some (plain 7) → (lowest ≡ none) × (b ≡ false)
  short_of none e = (refl, failed b e)
    where
      failed : (b : Bool) → need b Log none ≡ some (plain 7) → b ≡ false
      failed true e = absurd (some-ne-none (plain 7) (sym e))
      failed false e = refl
  short_of (some k) e = absurd (true≢false (ap (λ r. r.placed) (some-injective (Operation k) (plain 7) e)))

  formed_of : (lowest : Option ℕ) → Meets Formed (or_else (operation_at lowest) (need b Log none))
  formed_of none = first_meets Formed ((b, Log) ∷ []) (inl refl, tt)
  formed_of (some k) = some_meets Formed (Operation k) (inr refl)

module _ (plan : List ℕ) (count room : ℕ) where
  word_refused : (place : ℕ) → (runner_refusal plan count room ≡ some (placed 9 place)) ↔ NotAllowedAt plan count place
  unfolding runner_refusal
  word_refused place = (
    λ e. not_allowed_at plan count place (lowest_of (leb (log_size plan) room) (first_bad count 1 (drop 1 plan)) place e),
    λ n. rw (bad_from plan count place n),
  )

  log_refused : (runner_refusal plan count room ≡ some (plain 7)) ↔ LogShort plan count room
  unfolding runner_refusal
  log_refused = (
    λ e.
        let (fine, short) = short_of (leb (log_size plan) room) (first_bad count 1 (drop 1 plan)) e in
        record { words_allowed = allowed_from plan count fine; too_short = leb-false (log_size plan) room short },
    λ s. rw (fine_from plan count s.words_allowed, lt-leb (log_size plan) room s.too_short),
  )

  -- Nothing else is met.
  settled_by : (lowest : Option ℕ) (b : Bool) → first_bad count 1 (drop 1 plan) ≡ lowest → leb (log_size plan) room ≡ b
      → PlanWithin plan count room ⊎ ((place : ℕ) × NotAllowedAt plan count place) ⊎ LogShort plan count room
  settled_by none true fine e = inl (record { words_allowed = allowed_from plan count fine; log_enough = leb-true (log_size plan) room e })
  settled_by none false fine e = inr (inr (record { words_allowed = allowed_from plan count fine; too_short = leb-false (log_size plan) room e }))
  settled_by (some k) b bad e = inr (inl (k, not_allowed_at plan count k bad))

  pub settled_plan : PlanWithin plan count room ⊎ ((place : ℕ) × NotAllowedAt plan count place) ⊎ LogShort plan count room
  settled_plan = settled_by (first_bad count 1 (drop 1 plan)) (leb (log_size plan) room) refl refl

-- ---- what is told

module _ (plan : List ℕ) (cells : List ℤ) (log : List ℕ) where
  told : (r : Refusal) → Formed r
      → (plan_outcome plan cells log ≡ record { answer = refused r; cells = cells; log = log })
      ↔ (runner_refusal plan (length cells) (length log) ≡ some r)
  unfolding plan_outcome runner_refusal
  told r formed = (
    λ e.
        met_exactly (λ met. (plan_outcome_by met plan cells log).answer) (λ q. refl) r (λ e. omega (arith, ap (λ t. length t.values) e)) formed
        (runner_refusal plan (length cells) (length log))
        (formed_of (leb (log_size plan) (length log)) (first_bad (length cells) 1 (drop 1 plan))) (ap (λ o. o.answer) e),
    λ e. rw e,
  )

  pub nine_exactly : (place : ℕ)
      → (plan_outcome plan cells log ≡ record { answer = refused (placed 9 place); cells = cells; log = log })
      ↔ NotAllowedAt plan (length cells) place
  nine_exactly place = Iff.trans (told (placed 9 place) (inr refl)) (word_refused plan (length cells) (length log) place)

  pub seven_exactly : (plan_outcome plan cells log ≡ record { answer = refused (plain 7); cells = cells; log = log })
      ↔ LogShort plan (length cells) (length log)
  seven_exactly = Iff.trans (told (plain 7) (inl refl)) (log_refused plan (length cells) (length log))
