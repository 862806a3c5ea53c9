-- Cases on a test, with its equation; and what tests joined by `&&`, or a row of them by `||`, say.
-- Rests on the toolchain's library alone.
use mathlib.Core.Path.{◌≡◌, refl, sym, ◌∙◌}
use mathlib.Core.Bool.{Bool, true, false, ◌&&◌, ◌||◌, true≢false}
use Prim.Native.Nat.{ℕ, zero, suc, ◌<◌}
use native.Mathlib.Omega.{arith}
use lib.Dec.{T}
use native.Mathlib.Decide.{ℕ_discrete}

pub by_test {ℓ} : {X : Type ℓ} (b : Bool) → (b ≡ true → X) → (b ≡ false → X) → X
by_test true f g = f refl
by_test false f g = g refl

pub holds : (b : Bool) → T b → b ≡ true
holds true t = refl
holds false t = absurd t

pub and_not : (a b : Bool) → (a && b) ≡ false → a ≡ true → b ≡ false
and_not true b e h = e
and_not false b e h = absurd (true≢false (sym h))

-- `any k`: some test below k is true.
module _ (test any : ℕ → Bool) (none : any 0 ≡ false) (more : (k : ℕ) → any (suc k) ≡ (any k || test k)) where
  pub any_no : (k : ℕ) → any k ≡ false → (i : ℕ) → i < k → test i ≡ false
  any_no zero e i l = absurd (omega arith)
  any_no (suc k) e i l =
      by_test (any k)
      (λ q. absurd (true≢false (rw (more k, q) at e)))
      (λ q. elim (ℕ_discrete i k) [ yes r ↦ rw r (rw (more k, q) at e) | no r ↦ any_no k q i (omega arith) ])

  pub any_yes : (k : ℕ) → any k ≡ true → (i : ℕ) × (i < k) × (test i ≡ true)
  any_yes zero e = absurd (true≢false (sym e ∙ none))
  any_yes (suc k) e = by_test (any k) (λ q. let r = any_yes k q in (r.0, omega arith, r.2)) (λ q. (k, omega arith, rw (more k, q) at e))
