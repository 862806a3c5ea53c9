-- Instructions whose cells all lie in regions below `count` leave the depths of all other cells as they are.
-- Rests on Depths, on methods' Names and on the machine's Waiting.
use mathlib.Core.Path.{◌≡◌}
use mathlib.Core.List.{List, [], ◌∷◌}
use mathlib.Core.Option.{Option, none, some}
use Prim.Native.Nat.{ℕ, ◌<◌, ◌≤◌}
use native.Mathlib.Omega.{arith}
use borrow.Author.Tests.{ne_eqb}
use Rattle.machine.specs.Instruction.{Instruction, All}
use Rattle.machine.specs.Depth.{target, taken}
use Rattle.machine.proofs.Waiting.{OfTarget, target_named}
use Rattle.plans.proofs.Addresses.{Keeps}
use Rattle.methods.proofs.Steps.{Claim, Runs}
use Rattle.methods.proofs.Names.{Name, same}
use Rattle.depths.proofs.Depths.{Depths, after, depths}

module _ (count : ℕ) (s : Name → ℕ) where
  abbrev Low : Name → Type 0
  Low a = a.0 < count

  -- The cells of the other regions are at s.
  abbrev pub Spared : (at : Name → ℕ) → Type 0
  Spared at = (a : Name) → count ≤ a.0 → at a ≡ s a

  by_target : (o : Option Name) → OfTarget Low o → (x : ℕ) (at : Name → ℕ) → Spared at → Spared (taken same o x at)
  by_target none low x at h a c = h a c
  by_target (some d) low x at h a c = rw (ne_eqb d.0 a.0 (omega arith)) (h a c)

  pub spared : (most : ℕ) (is : List (Instruction Name)) → All (Keeps Low (λ z. Unit {0})) is
      → (R : Claim (Depths Name)) (t : Depths Name) → Spared t.0
      → Runs (depths same most) is R t → Runs (depths same most) is (λ u. R u × Spared u.0) t
  spared most [] low R t h r = (r, h)
  spared most (i ∷ is) low R t h (x, e, r) =
      (x, e, spared most is low.1 R (after same i x t) (by_target (target i) (target_named Low i low.0.0) x t.0 h) r)
