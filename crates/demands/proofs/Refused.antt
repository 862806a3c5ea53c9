-- A request is told a refusal and its buffers stay exactly where it meets that refusal: a run tells values, a refusal none.
-- Rests on answers' Told and limits' Numbers.
use mathlib.Core.Path.{◌≡◌, refl, ap}
use mathlib.Core.Logic.{◌↔◌}
use mathlib.Core.List.{List}
use mathlib.Core.Option.{some}
use Prim.Native.Nat.{ℕ, zero, suc}
use native.Mathlib.Omega.{arith}
use lib.ListN.{length}
use Rattle.answers.specs.Refusal.{Refusal}
use Rattle.answers.specs.Told.{refused}
use Rattle.answers.proofs.Told.{Formed, met_exactly}
use Rattle.limits.proofs.Numbers.{request_formed}
use Rattle.demands.specs.Run.{Lent, refusal_of, verdict_of_run, ran_by, refused_by, outcome_by, outcome}

module _ (request : List ℕ) (lent : Lent) (r : Refusal) where
  -- A run tells values.
  pub ran_values : (verdict : ℕ) → (ran_by verdict request lent).answer ≡ refused r → ⊥
  ran_values zero e = omega (arith, ap (λ t. length t.values) e)
  ran_values (suc more) e = omega (arith, ap (λ t. length t.values) e)

  pub refused_exactly : Formed r → (outcome request lent ≡ refused_by r lent) ↔ (refusal_of request lent ≡ some r)
  unfolding outcome
  refused_exactly formed = (
    λ e.
        met_exactly (λ met. (outcome_by met request lent).answer) (λ q. refl) r (ran_values (verdict_of_run request lent)) formed
        (refusal_of request lent) (request_formed request _) (ap (λ o. o.answer) e),
    λ e. rw e,
  )
