-- The pigeonhole principle: of n + 1 numbers below n two are equal.
-- Rests on the toolchain's library alone.
use mathlib.Core.Path.{◌≡◌}
use mathlib.Core.Logic.{◌⊎◌, inl, inr, ◌≢◌}
use Prim.Native.Nat.{ℕ, zero, suc, ◌<◌, ◌≤◌}
use native.Mathlib.Omega.{arith}
use native.Mathlib.Decide.{ℕ_discrete}

-- A number below k at which f is x, or there is none.
find : (f : ℕ → ℕ) (x k : ℕ) → ((i : ℕ) × (i < k) × (f i ≡ x)) ⊎ ((i : ℕ) → i < k → f i ≢ x)
find f x zero = inr (λ i h. absurd (omega arith))
find f x (suc k) =
    elim (ℕ_discrete (f k) x) [
      | yes e ↦ inl (k, omega arith, e)
      | no d ↦ elim (find f x k) [
        | inl r ↦ inl (r.0, omega arith, r.2)
        | inr r ↦ inr (λ i h. elim (ℕ_discrete i k) [ yes q ↦ rw q d | no q ↦ r i (omega arith) ])
      ]
    ]

-- a, but b in place of n.
swapped : (a n b : ℕ) → Dec (a ≡ n) → ℕ
swapped a n b (yes e) = b
swapped a n b (no e) = a

swapped_below : (a n b : ℕ) (d : Dec (a ≡ n)) → a < suc n → b < suc n → a ≢ b → swapped a n b d < n
unfolding swapped
swapped_below a n b (yes e) h k q = omega arith
swapped_below a n b (no e) h k q = omega arith

swapped_same : (a a' n b : ℕ) (d : Dec (a ≡ n)) (d' : Dec (a' ≡ n)) → a ≢ b → a' ≢ b → swapped a n b d ≡ swapped a' n b d' → a ≡ a'
unfolding swapped
swapped_same a a' n b (yes e) (yes e') q q' h = omega arith
swapped_same a a' n b (yes e) (no e') q q' h = omega arith
swapped_same a a' n b (no e) (yes e') q q' h = omega arith
swapped_same a a' n b (no e) (no e') q q' h = h

pub pigeon : (n : ℕ) (f : ℕ → ℕ) → ((i : ℕ) → i ≤ n → f i < n) → (i : ℕ) × (j : ℕ) × (i < j) × (j ≤ n) × (f i ≡ f j)
pigeon zero f h = absurd (omega (arith, h 0 (omega arith)))
pigeon (suc n) f h =
    elim (find f x (suc n)) [
      | inl r ↦ (r.0, suc n, r.1, omega arith, r.2)
      | inr r ↦
          let w = pigeon n g (λ i k. swapped_below (f i) n x (ℕ_discrete (f i) n) (h i (omega arith)) (h (suc n) (omega arith)) (r i (omega arith))) in (
            w.0,
            w.1,
            w.2,
            omega arith,
            swapped_same (f w.0) (f w.1) n x (ℕ_discrete (f w.0) n) (ℕ_discrete (f w.1) n) (r w.0 (omega arith)) (r w.1 (omega arith)) w.4,
          )
    ]
  where
    x : ℕ
    x = f (suc n)

    g : ℕ → ℕ
    g i = swapped (f i) n x (ℕ_discrete (f i) n)
