-- What the machine's tests leave in cells, as laws for `simp`; and where a sum does not wrap.
-- Rests on the machine's numbers.
use mathlib.Core.Path.{◌≡◌, refl}
use mathlib.Core.Logic.{◌↔◌}
use mathlib.Core.Bool.{Bool, true, false, cond, ◌&&◌, ◌||◌, and-true, and-false, and_comm}
use Prim.Native.Nat.{ℕ, ◌+◌, ◌^◌, ◌<◌, ◌≤◌}
use native.Mathlib.Omega.{arith}
use borrow.Author.Tests.{eqb-true}
use lib.Dec.{eqb}
use lib.IntN.{ℤ, pos, negsuc, nat_abs, ◌+ℤ◌}
use lib.Signed.{mag}
use Rattle.lists.proofs.Test.{by_test}
use Rattle.machine.specs.Effect.{bit, both, pick, wrap_add}
use Rattle.machine.proofs.Exact.{wrap_exact}
use Rattle.graph.proofs.Int.{abs_add}

pub both_bit : (a b : Bool) → both (bit a) (bit b) ≡ bit (a && b)
unfolding both bit
both_bit true true = refl
both_bit true false = refl
both_bit false true = refl
both_bit false false = refl

pub pick_bit : (b : Bool) (x y : ℤ) → pick (bit b) x y ≡ cond b x y
unfolding pick bit
pick_bit true x y = refl
pick_bit false x y = refl

pub cond_ap : {X : Type 0} (f : X → ℤ) (b : Bool) (x y : X) → cond b (f x) (f y) ≡ f (cond b x y)
cond_ap f true x y = refl
cond_ap f false x y = refl

-- A bit put to 0.
pub cond_zero : (b c : Bool) → cond b (pos 0) (bit c) ≡ bit (cond b false c)
unfolding bit
cond_zero b c = cond_ap bit b false c

pub bit_one : (b : Bool) → (bit b ≡ pos 1) ↔ (b ≡ true)
unfolding bit
bit_one true = (λ e. refl, λ e. refl)
bit_one false = (λ e. cc, λ e. cc)

pub bit_zero : (b : Bool) → (bit b ≡ pos 0) ↔ (b ≡ false)
unfolding bit
bit_zero true = (λ e. cc, λ e. cc)
bit_zero false = (λ e. refl, λ e. refl)

-- A flag c, raised where the test b passes.
pub raise : (b c : Bool) → cond b (bit b) (bit c) ≡ bit (c || b)
raise true true = refl
raise true false = refl
raise false true = refl
raise false false = refl

-- .. at the place e.
pub raised : (b c e : Bool) (x : ℤ) → (e ≡ true → x ≡ bit c) → cond (b && e) (bit (b && e)) x ≡ cond e (bit (c || b)) x
raised b c true x h = rw (and-true b, h refl) (raise b c)
raised b c false x h = rw (and-false b)

-- A test that counts at the place w alone.
pub and_at : (a : ℕ → Bool) (b : Bool) (w k : ℕ) → ((a k && b) && eqb w k) ≡ ((b && a w) && eqb w k)
and_at a b w k =
    by_test (eqb w k)
    (λ e. rw (eqb-true w k e, and_comm (a k) b))
    (λ e. rw (and_comm (a k && b) (eqb w k), and_comm (b && a w) (eqb w k), e))

mag_abs : (z : ℤ) → mag z ≤ nat_abs z
mag_abs (pos n) = omega arith
mag_abs (negsuc n) = omega arith

pub sum_exact : (x y : ℤ) → nat_abs x + nat_abs y < 2 ^ 63 → wrap_add x y ≡ x +ℤ y
sum_exact x y h =
    wrap_exact x y (omega (arith, mag_abs x)) (omega (arith, mag_abs y)) (omega (arith, mag_abs (x +ℤ y), abs_add x y))
