-- Instructions leave the regions that they do not name.
-- Rests on stores, names and the machine's Waiting.
use mathlib.Core.Path.{◌≡◌, refl, ◌∙◌}
use mathlib.Core.List.{List, [], ◌∷◌}
use Prim.Native.Nat.{ℕ, ◌<◌, ◌≤◌}
use native.Mathlib.Omega.{arith}
use borrow.Author.Tests.{ne_eqb}
use lib.IntN.{ℤ}
use Rattle.machine.specs.Instruction.{Instruction, addresses, All}
use Rattle.machine.specs.Effect.{Effect, writes, nothing, effect}
use Rattle.machine.proofs.Waiting.{written_by, target_alone, OfTarget, target_named}
use Rattle.plans.proofs.Addresses.{Keeps}
use Rattle.methods.specs.Bank.{summands}
use Rattle.methods.proofs.Sums.{asked_map}
use Rattle.methods.proofs.Steps.{Claim, Runs}
use Rattle.methods.proofs.Stores.{after, numbers}
use Rattle.methods.proofs.Names.{Name, same, Store}

-- Regions below `count` are named, and those from it on stay.
module _ (Q : ℤ → ℤ → Type 0) (count : ℕ) where
  abbrev Low : Name → Type 0
  Low a = a.0 < count

  abbrev Stay : (s t : Store) → Type 0
  Stay s t = (a : Name) → count ≤ a.0 → t a ≡ s a

  by_effect : (e : Effect Name) → OfTarget Low (written_by e) → (s : Store) → Stay s (after same e s)
  by_effect (writes d z) low s a l = rw (ne_eqb d.0 a.0 (omega arith))
  by_effect nothing low s a l = refl

  stays : (i : Instruction Name) → All Low (addresses i) → (s : Store) → Stay s (after same (effect i s) s)
  stays i low s = by_effect (effect i s) (rw (target_alone i s) (target_named Low i low)) s

  -- Since s.
  since : (s : Store) (is : List (Instruction Name)) → All (Keeps Low (λ z. Unit {0})) is → (R : Claim Store) (t : Store)
      → Stay s t → Runs (numbers same Q) is R t → Runs (numbers same Q) is (λ u. R u × Stay s u) t
  since s [] low R t h r = (r, h)
  since s (i ∷ is) low R t h r =
      asked_map Q Q (λ x y q. q) (summands i) t
      (since s is low.1 R (after same (effect i t) t) (λ a l. stays i low.0.0 t a l ∙ h a l)) r

  pub spared : (is : List (Instruction Name)) → All (Keeps Low (λ z. Unit {0})) is → (R : Claim Store) (s : Store)
      → Runs (numbers same Q) is R s → Runs (numbers same Q) is (λ t. R t × Stay s t) s
  spared is low R s = since s is low R s (λ a l. refl)
