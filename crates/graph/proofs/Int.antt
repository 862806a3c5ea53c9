-- Integers for `omega`: z is `up z` less `dn z`. `omega (arithℤ, sum a b)` proves linear facts over ℤ, with a `sum a b` listed for each a +ℤ b that occurs.
-- Rests on tests.
use mathlib.Core.Path.{◌≡◌, refl, ap, subst}
use mathlib.Core.Logic.{◌⊎◌, inl, inr}
use mathlib.Core.Bool.{true, false}
use Prim.Native.Nat.{ℕ, suc, ◌+◌, ◌<◌, ◌≤◌}
use native.Mathlib.Omega.{arith}
use borrow.Author.Tests.{ltb-true, ltb-false}
use lib.IntN.{ℤ, pos, negsuc, nat_abs, sub_ℕ, ◌+ℤ◌}
use lib.Signed.{lt_z, le_z, ◌≤ℤ◌, ◌<ℤ◌, lt_z_yes, lt_z_no}
use lib.Dec.{T, ltb, leb→le, le→leb, ltb→lt, lt→ltb}
use Rattle.lists.proofs.Test.{by_test, holds}

abbrev pub up : ℤ → ℕ
up (pos n) = n
up (negsuc n) = 0

abbrev pub dn : ℤ → ℕ
dn (pos n) = 0
dn (negsuc n) = suc n

-- ---- the orders and equality, to and fro

le→ : (a b : ℤ) → T (le_z a b) → up a + dn b ≤ up b + dn a
le→ (pos a) (pos b) t = omega (arith, leb→le a b t)
le→ (pos a) (negsuc b) t = absurd t
le→ (negsuc a) (pos b) t = omega arith
le→ (negsuc a) (negsuc b) t = omega (arith, leb→le b a t)

lt→ : (a b : ℤ) → T (lt_z a b) → up a + dn b < up b + dn a
lt→ (pos a) (pos b) t = omega (arith, ltb→lt a b t)
lt→ (pos a) (negsuc b) t = absurd t
lt→ (negsuc a) (pos b) t = omega arith
lt→ (negsuc a) (negsuc b) t = omega (arith, ltb→lt b a t)

→le : (a b : ℤ) → up a + dn b ≤ up b + dn a → T (le_z a b)
→le (pos a) (pos b) h = le→leb a b (omega arith)
→le (pos a) (negsuc b) h = absurd (omega arith)
→le (negsuc a) (pos b) h = tt
→le (negsuc a) (negsuc b) h = le→leb b a (omega arith)

→lt : (a b : ℤ) → up a + dn b < up b + dn a → T (lt_z a b)
→lt (pos a) (pos b) h = lt→ltb a b (omega arith)
→lt (pos a) (negsuc b) h = absurd (omega arith)
→lt (negsuc a) (pos b) h = tt
→lt (negsuc a) (negsuc b) h = lt→ltb b a (omega arith)

→eq : (a b : ℤ) → up a + dn b ≡ up b + dn a → a ≡ b
→eq (pos a) (pos b) h = ap pos (omega arith)
→eq (pos a) (negsuc b) h = absurd (omega arith)
→eq (negsuc a) (pos b) h = absurd (omega arith)
→eq (negsuc a) (negsuc b) h = ap negsuc (omega arith)

pub le_ℕ : {a b : ℤ} → a ≤ℤ b → up a + dn b ≤ up b + dn a
le_ℕ {a} {b} h = le→ a b h.le

pub lt_ℕ : {a b : ℤ} → a <ℤ b → up a + dn b < up b + dn a
lt_ℕ {a} {b} h = lt→ a b h.lt

pub eq_ℕ : {a b : ℤ} → a ≡ b → up a + dn b ≡ up b + dn a
eq_ℕ {a} {b} h = subst (λ (c : ℤ). up a + dn c ≡ up c + dn a) h refl

pub ℕ-le : {a b : ℤ} → up a + dn b ≤ up b + dn a → a ≤ℤ b
ℕ-le {a} {b} h = record { le = →le a b h }

pub ℕ-lt : {a b : ℤ} → up a + dn b < up b + dn a → a <ℤ b
ℕ-lt {a} {b} h = record { lt = →lt a b h }

pub ℕ-eq : {a b : ℤ} → up a + dn b ≡ up b + dn a → a ≡ b
ℕ-eq {a} {b} h = →eq a b h

pub ruleset arithℤ = (arith, le_ℕ, lt_ℕ, eq_ℕ, ℕ-le, ℕ-lt, ℕ-eq)

-- ---- sums

sub_is : (a b : ℕ) → up (sub_ℕ a b) + b ≡ a + dn (sub_ℕ a b)
sub_is a b = by_test (ltb a b) (λ e. rw e (omega (arith, ltb-true a b e))) (λ e. rw e (omega (arith, ltb-false a b e)))

pub sum : (a b : ℤ) → up (a +ℤ b) + dn a + dn b ≡ up a + up b + dn (a +ℤ b)
sum (pos a) (pos b) = omega arith
sum (pos a) (negsuc b) = omega (arith, sub_is a (suc b))
sum (negsuc a) (pos b) = omega (arith, sub_is b (suc a))
sum (negsuc a) (negsuc b) = omega arith

-- ---- tests

pub lt_z_true : {a b : ℤ} → lt_z a b ≡ true → a <ℤ b
lt_z_true e = lt_z_yes (rw e tt)

pub lt_z_false : {a b : ℤ} → lt_z a b ≡ false → b ≤ℤ a
lt_z_false e = lt_z_no (rw e tt)

pub lt_lt_z : {a b : ℤ} → a <ℤ b → lt_z a b ≡ true
lt_lt_z {a} {b} h = holds (lt_z a b) h.lt

pub le_or_lt : (a b : ℤ) → (a ≤ℤ b) ⊎ (b <ℤ a)
le_or_lt a b = by_test (lt_z b a) (λ e. inr (lt_z_true e)) (λ e. inl (lt_z_false e))

-- ---- absolute values

pub abs : (a : ℤ) → nat_abs a ≡ up a + dn a
abs (pos n) = omega arith
abs (negsuc n) = omega arith

pub abs_most : (a : ℤ) (b : ℕ) → up a ≤ b + dn a → dn a ≤ b + up a → nat_abs a ≤ b
abs_most (pos n) b h k = omega arith
abs_most (negsuc n) b h k = omega arith

pub abs_add : (a b : ℤ) → nat_abs (a +ℤ b) ≤ nat_abs a + nat_abs b
abs_add a b = abs_most (a +ℤ b) (nat_abs a + nat_abs b) (omega (arith, sum a b, abs a, abs b)) (omega (arith, sum a b, abs a, abs b))

pub le_abs : (a : ℤ) → a ≤ℤ pos (nat_abs a)
le_abs a = omega (arithℤ, abs a)
