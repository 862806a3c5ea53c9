-- What io's `decimal` and `hex` leave is the number's text: the fewest digits have no leading zero, and a word has 16 of base 16.
-- Rests on Written and fields' Shifts.
use mathlib.Core.Logic.{⊎_elim}
use mathlib.Core.Path.{◌≡◌, refl, sym, ap, subst, ◌∙◌}
use mathlib.Core.Bool.{false}
use mathlib.Core.List.{List, [], ◌∷◌, ◌++◌}
use Prim.Native.Nat.{ℕ, zero, suc, ◌-◌, ◌/◌, ◌%◌, ◌^◌, ◌<◌, ◌≤◌}
use native.Mathlib.Nat.{one-le-pow, pow-le-pow_right, eq-zero-or-pos}
use native.Mathlib.Omega.{arith, pow_step}
use borrow.Author.Tests.{eq-eqb, ne_eqb}
use lib.Dec.{eqb}
use lib.IntN.{ℤ, nat_abs}
use lib.ListN.{length, take}
use lib.Seq.{length-take-le}
use Rattle.io.specs.Digits.{hex_digit_ascii, last_digits, IsDigitCount}
use Rattle.text.specs.Text.{dash, leading, decimal, signed, hexadecimal}
use Rattle.text.specs.Appended.{Appended}
use Rattle.text.specs.declared.Text.{Text}
use Rattle.fields.proofs.Shifts.{Below, NotBelow}
use Rattle.text.proofs.Written.{then, wider}

-- The digits of k places, where the first is not 0, are those of the number.
leading_digits : (k most rest : ℕ) → k ≤ most → rest < 10 ^ k → (0 < k → 10 ^ (k - 1) ≤ rest) → last_digits 10 k rest ≡ leading most rest
unfolding leading
leading_digits zero zero q m h l = refl
leading_digits zero (suc f) q m h l = rw (eq-eqb q 0 (omega arith))
leading_digits (suc k) zero q m h l = let no : ⊥ = omega arith in absurd no
leading_digits (suc k) (suc f) q m h l =
    let same : suc k - 1 ≡ k = omega arith in
    let low : 10 ^ k ≤ q = rw same at (l (omega arith)) in
    let one : 1 ≤ 10 ^ k = one-le-pow k 10 (omega arith) in
    let ne : eqb q 0 ≡ false = ne_eqb q 0 (λ (e : q ≡ 0). omega arith) in
    ap (λ (ds : List ℕ). ds ++ (hex_digit_ascii (q % 10) ∷ []))
    (leading_digits k f (q / 10) (omega arith) (omega (arith, pow_step 10 k)) (tens k low))
    ∙ sym (rw ne)
  where
    tens : (j : ℕ) → 10 ^ j ≤ q → 0 < j → 10 ^ (j - 1) ≤ q / 10
    tens zero g o = let no : ⊥ = omega arith in absurd no
    tens (suc j) g o = let same : suc j - 1 ≡ j = omega arith in rw same (omega (arith, pow_step 10 j))

-- A number below b ^ most has at most `most` digits of base b.
few : (b least most n k : ℕ) → 0 < b → least ≤ most → n < b ^ most → IsDigitCount b least n k → k ≤ most
few b least most n k o l h f =
    ⊎_elim (λ (e : k - most ≡ 0). omega arith) (λ (g : 0 < k - most). more (omega arith)) (eq-zero-or-pos (k - most))
  where
    more : most < k → k ≤ most
    more g =
        let low : b ^ (k - 1) ≤ n = f.2 (omega arith) in
        let up : b ^ most ≤ b ^ (k - 1) = pow-le-pow_right {n = b} o {i = most} {j = k - 1} (omega arith) in
        omega arith

few_tens : (n k : ℕ) → n < 2 ^ 64 → IsDigitCount 10 1 n k → k ≤ 20
few_tens n k h f = few 10 1 20 n k (omega arith) (omega arith) (omega arith) f

-- The fewest digits of a word are its text.
is_decimal : (n k : ℕ) → n < 2 ^ 64 → IsDigitCount 10 1 n k → last_digits 10 k n ≡ decimal n
unfolding decimal
is_decimal n zero w f = let no : ⊥ = omega (arith, f.0) in absurd no
is_decimal n (suc zero) w f =
    ap (λ (ds : List ℕ). ds ++ (hex_digit_ascii (n % 10) ∷ []))
    (leading_digits 0 19 (n / 10) (omega arith) (omega (arith, f.1)) (λ (o : 0 < 0). let no : ⊥ = omega arith in absurd no))
is_decimal n (suc (suc k)) w f =
    let same : suc (suc k) - 1 ≡ suc k = omega arith in
    let low : 10 ^ suc k ≤ n = rw same at (f.2 (omega arith)) in
    let less : suc k - 1 ≡ k = omega arith in
    ap (λ (ds : List ℕ). ds ++ (hex_digit_ascii (n % 10) ∷ []))
    (leading_digits (suc k) 19 (n / 10) (omega (arith, few_tens n (suc (suc k)) w f)) (omega (arith, f.1, pow_step 10 (suc k)))
    (λ (o : 0 < suc k). rw less (omega (arith, low, pow_step 10 k))))

-- The first k digits of an array, appended, are the text that they make.
copied : {a b : Text} (k most : ℕ) (text out : List ℕ) → k ≤ length out → k ≤ most → take k out ≡ text
    → Appended (length (take k out)) (take k out) a b → Appended most text a b
copied {a} {b} k most text out i h e p =
    subst (λ (t : List ℕ). Appended most t a b) e (wider p most (omega (arith, length-take-le k out i)))

module _ (n k : ℕ) (out : List ℕ) (h : n < 2 ^ 64) (i : k ≤ length out) where
  pub number : {a b : Text} → IsDigitCount 10 1 n k → take k out ≡ last_digits 10 k n
      → Appended (length (take k out)) (take k out) a b → Appended 20 (decimal n) a b
  number f e = copied k 20 (decimal n) out i (few_tens n k h f) (e ∙ is_decimal n k h f)

  sixteen : IsDigitCount 16 16 n k → k ≡ 16
  sixteen f = let m = few 16 16 16 n k (omega arith) (omega arith) (omega arith) f in omega (arith, f.0)

  pub word : {a b : Text} → IsDigitCount 16 16 n k → take k out ≡ last_digits 16 k n
      → Appended (length (take k out)) (take k out) a b → Appended 16 (hexadecimal n) a b
  unfolding hexadecimal
  word f e = copied k 16 (hexadecimal n) out i (omega (arith, sixteen f)) (e ∙ ap (λ (j : ℕ). last_digits 16 j n) (sixteen f))

-- A number with its sign, from how far it is from 0.
pub negative : {z : ℤ} {n : ℕ} {a b c : Text} → Below z → n ≡ nat_abs z → Appended 1 (dash ∷ []) a b → Appended 20 (decimal n) b c
    → Appended 21 (signed z) a c
unfolding signed
negative {z} h e p q = rw (h.is, sym (e ∙ ap nat_abs h.is)) (then p q)

pub positive : {z : ℤ} {n : ℕ} {a b : Text} → NotBelow z → n ≡ nat_abs z → Appended 20 (decimal n) a b → Appended 21 (signed z) a b
unfolding signed
positive {z} h e p = rw (h.is, sym (e ∙ ap nat_abs h.is)) (wider p 21 (omega arith))
