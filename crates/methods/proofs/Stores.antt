-- Instructions carried out on a store, a function from addresses to numbers, with something asked of the sums on the way.
-- For any addresses with a test `same` of two of them. Rests on steps and on the machine's effects.
use mathlib.Core.Bool.{Bool, cond}
use lib.IntN.{ℤ}
use Rattle.machine.specs.Instruction.{Instruction}
use Rattle.machine.specs.Effect.{Effect, writes, nothing, effect}
use Rattle.methods.specs.Bank.{summands, asked}
use Rattle.methods.proofs.Sums.{asked_map}
use Rattle.methods.proofs.Steps.{Kind}

module _ {A : Type 0} (same : A → A → Bool) where
  abbrev pub put : (d : A) (z : ℤ) → (A → ℤ) → A → ℤ
  put d z s a = cond (same d a) z (s a)

  abbrev pub after : Effect A → (A → ℤ) → A → ℤ
  after (writes d z) s = put d z s
  after nothing s = s

  -- They form only sums of numbers that Q holds of.
  abbrev pub numbers : (Q : ℤ → ℤ → Type 0) → Kind (Instruction A) (A → ℤ)
  numbers Q =
      record {
        needs = λ i R s. asked Q (summands i) s (R (after (effect i s) s));
        needs_to = λ i M R f s h. asked_map Q Q (λ x y q. q) (summands i) s (f (after (effect i s) s)) h;
      }
