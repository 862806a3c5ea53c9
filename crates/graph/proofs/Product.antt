-- Products and differences of integers for `omega`: a `times c a` listed for each pos c *ℤ a that occurs, a `minus a b` for each a -ℤ b.
-- Rests on the integer kit.
use mathlib.Core.Path.{◌≡◌, refl, ap}
use Prim.Native.Nat.{ℕ, zero, suc, ◌+◌, ◌*◌}
use native.Mathlib.Omega.{arith}
use native.Mathlib.Nat.{mul-add, mul-le-mul_left}
use lib.IntN.{ℤ, pos, negsuc, neg_ℤ, nat_abs, ◌+ℤ◌, ◌-ℤ◌, ◌*ℤ◌}
use lib.Signed.{◌≤ℤ◌}
use Rattle.graph.proofs.Int.{up, dn, arithℤ, sum, abs, le_ℕ}

negated : (a : ℤ) → (up (neg_ℤ a) ≡ dn a) × (dn (neg_ℤ a) ≡ up a)
negated (pos zero) = (refl, refl)
negated (pos (suc n)) = (refl, refl)
negated (negsuc n) = (refl, refl)

pub minus : (a b : ℤ) → up (a -ℤ b) + dn a + up b ≡ up a + dn b + dn (a -ℤ b)
minus a b = omega (arith, sum a (neg_ℤ b), (negated b).0, (negated b).1)

pub times : (c : ℕ) (a : ℤ) → (up (pos c *ℤ a) ≡ c * up a) × (dn (pos c *ℤ a) ≡ c * dn a)
times c (pos n) = (refl, omega arith)
times c (negsuc n) = let r = negated (pos (c * suc n)) in (omega (arith, r.0), r.1)

pub times_sum : (c : ℕ) (a b : ℤ) → pos c *ℤ (a +ℤ b) ≡ pos c *ℤ a +ℤ pos c *ℤ b
times_sum c a b =
    omega (
      arithℤ,
      ap (λ (k : ℕ). c * k) (sum a b),
      mul-add c (up (a +ℤ b) + dn a) (dn b),
      mul-add c (up (a +ℤ b)) (dn a),
      mul-add c (up a + up b) (dn (a +ℤ b)),
      mul-add c (up a) (up b),
      times c a,
      times c b,
      times c (a +ℤ b),
      sum (pos c *ℤ a) (pos c *ℤ b),
    )

pub times_le : (c : ℕ) (a b : ℤ) → a ≤ℤ b → (pos c *ℤ a) ≤ℤ (pos c *ℤ b)
times_le c a b h = omega (arithℤ, mul-le-mul_left c (le_ℕ h), mul-add c (up a) (dn b), mul-add c (up b) (dn a), times c a, times c b)

pub times_abs : (c : ℕ) (a : ℤ) → nat_abs (pos c *ℤ a) ≡ c * nat_abs a
times_abs c a = omega (arith, abs (pos c *ℤ a), abs a, times c a, mul-add c (up a) (dn a), ap (λ (k : ℕ). c * k) (abs a))
