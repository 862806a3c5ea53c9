-- An answer without a refusal, numbered 0, is that of a request that ran, with verdict 0.
-- Rests on demand 1 and limits' Numbers.
use mathlib.Core.Path.{◌≡◌, refl, ap}
use mathlib.Core.Logic.{⊎_elim}
use mathlib.Core.Bool.{true≢false}
use mathlib.Core.List.{List}
use mathlib.Core.Option.{Option, none, some}
use Prim.Native.Nat.{ℕ}
use native.Mathlib.Omega.{arith}
use lib.ListN.{get_or}
use Rattle.answers.specs.Refusal.{Refusal}
use Rattle.answers.specs.Told.{Apart}
use Rattle.answers.proofs.Meets.{Meets}
use Rattle.limits.proofs.Numbers.{request_apart}
use Rattle.demands.specs.Run.{Lent, refusal_of, outcome_by, outcome}
use Rattle.demands.specs.Demands.{RanOn, verdict_told}
use Rattle.demands.proofs.Theorems.{demand1}

module _ (request : List ℕ) (lent : Lent) where
  met_none : (met : Option Refusal) → Meets Apart met → (outcome_by met request lent).answer.number ≡ 0 → met ≡ none
  met_none none a e = refl
  met_none (some r) a e = absurd (true≢false (rw e at (a.holds r refl).0))

  module _ (unrefused : (outcome request lent).answer.number ≡ 0) where
    pub ran : RanOn request lent
    unfolding outcome
    ran = met_none (refusal_of request lent) (request_apart request _) unrefused

    pub no_cycle : verdict_told request lent ≡ 0
    no_cycle =
        ⊎_elim (λ e. ap (λ t. get_or t.values 2 0) e) (λ e. absurd (omega (arith, unrefused, ap (λ t. t.number) e)))
        ((demand1 request lent).tells ran)
