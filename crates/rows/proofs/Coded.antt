-- What the code over a plan's lines computes: flags of three operands at once, their steps, and a line's row.
-- Rests on the machine's words and on the toolchain's bits.
use mathlib.Core.Path.{◌≡◌, refl, sym, ap, ◌∙◌}
use mathlib.Core.List.{List, [], ◌∷◌}
use Prim.Native.Nat.{ℕ, zero, suc, ◌+◌, ◌-◌, ◌*◌, ◌/◌, ◌%◌, ◌^◌, ◌<◌, ◌≤◌}
use native.Mathlib.Nat.{mul-add, mul_assoc, mod-lt, add-zero, zero-add}
use native.Mathlib.Omega.{arith}
use borrow.Author.Tests.{ne_eqb, lt-ltb, le-ltb}
use lib.Bits.{bit_and, and_block, and_mask, and_le_r}
use lib.IntN.{nat_abs}
use lib.ListN.{length, get_or, get_or-eq_default}
use lib.Pow.{split, shr-shr, mod-mod-pow}
use Rattle.fields.specs.Fields.{field_of, join_of}
use Rattle.machine.specs.Word.{op_field, b_field, packed, packed_set}
use Rattle.plans.specs.Limits.{far}
use Rattle.rows.specs.declared.Moving.{Moving}
use Rattle.rows.specs.declared.Row.TheVariants.{Word, Loop}
use Rattle.rows.specs.Code.{place_of, step_of, flags_of, set_number, set_other, set_step, word_step, set_row, instruction_row, over_of, row_of_code}

-- ---- flags

-- Above the lowest bit, the mask goes on 20 bits further.
low_flag : (x mask : ℕ) → bit_and x (mask * 2 ^ 20 + 1) ≡ bit_and (x / 2 ^ 20) mask * 2 ^ 20 + x % 2 ^ 1
low_flag x mask =
    ap (λ (y : ℕ). bit_and y (mask * 2 ^ 20 + 1)) (sym (split x 20))
    ∙ and_block 20 (x / 2 ^ 20) mask (x % 2 ^ 20) 1 (mod-lt x (omega arith)) (omega arith)
    ∙ ap (λ (y : ℕ). bit_and (x / 2 ^ 20) mask * 2 ^ 20 + y) (and_mask (x % 2 ^ 20) 1 ∙ mod-mod-pow x 19 1)

pub flags_are : (code bit : ℕ) → bit_and (code / 2 ^ bit) 1099512676353 ≡ flags_of bit code
unfolding flags_of packed
flags_are code bit =
    let x = code / 2 ^ bit in
    let y = x / 2 ^ 20 in
    let z = low_flag y 1 ∙ ap (λ (u : ℕ). u * 2 ^ 20 + y % 2 ^ 1) (and_mask (y / 2 ^ 20) 1) in
    rw (add-zero bit, ← shr-shr code bit 20, ← shr-shr code bit 40, ← shr-shr x 20 20)
    (low_flag x (2 ^ 20 + 1) ∙ ap (λ (u : ℕ). u * 2 ^ 20 + x % 2 ^ 1) z ∙ omega arith)

pub flags_small : (code bit : ℕ) → bit_and (code / 2 ^ bit) 1099512676353 < 2 ^ 41
flags_small code bit = omega (arith, and_le_r (code / 2 ^ bit) 1099512676353)

-- ---- steps

flag : (s code : ℕ) → field_of s 1 code < 2
flag s code = mod-lt (code / 2 ^ s) (omega arith)

chosen : (n f : ℕ) → f < 2 → get_or (0 ∷ n ∷ []) f 0 ≡ n * f
chosen n zero h = omega arith
chosen n (suc zero) h = omega arith
chosen n (suc (suc f)) h = let no : ⊥ = omega arith in absurd no

step_is : (n l s code : ℕ) → step_of n l s code ≡ field_of (5 + l + s) 1 code + n * field_of (8 + l + s) 1 code
unfolding step_of
step_is n l s code = rw (chosen n (field_of (8 + l + s) 1 code) (flag (8 + l + s) code))

-- Three numbers times n, in one word.
spread : (n a b c x y z : ℕ) → packed 0 a b c + n * packed 0 x y z ≡ packed 0 (a + n * x) (b + n * y) (c + n * z)
unfolding packed
spread n a b c x y z =
    let u = x * 2 ^ 20 + y in
    omega (arith, mul-add n (u * 2 ^ 20) z, mul_assoc n u (2 ^ 20), mul-add n (x * 2 ^ 20) y, mul_assoc n x (2 ^ 20))

pub word_step_is : (n l code : ℕ) {f g : ℕ} → f ≡ flags_of (5 + l) code → g ≡ flags_of (8 + l) code → f + n * g ≡ word_step n code l
unfolding flags_of word_step
word_step_is n l code e h =
    rw (e, h, step_is n l 40 code, step_is n l 20 code, step_is n l 0 code) (spread n _ _ _ _ _ _)

-- ---- operands

module _ (env : List ℕ) (s code : ℕ) {i y : ℕ} (index : i ≡ field_of (11 + s) 5 code) (offset : y ≡ field_of s 5 code) where
  pub place_in : get_or env i 0 + y ≡ place_of env s code
  unfolding place_of
  place_in = rw (index, offset)

  pub place_past : length env ≤ i → y ≡ place_of env s code
  place_past h = sym (zero-add y) ∙ ap (λ (x : ℕ). x + y) (sym (get_or-eq_default env 0 h)) ∙ place_in

-- ---- SET

module _ (code : ℕ) {b : ℕ} (is : b ≡ b_field code) where
  pub number_listed : (i : ℕ) → b ≡ i → get_or (field_of 20 5 code ∷ nat_abs far ∷ (2 ^ 40 - 1) ∷ []) i 0 ≡ set_number code
  unfolding set_number
  number_listed i e = rw (← is, e)

  pub number_none : 2 < b → 0 ≡ set_number code
  number_none h = number_listed (suc (suc (suc (b - 3)))) (omega arith)

  pub other_far : b ≡ 3 → nat_abs far ≡ set_other code
  unfolding set_other
  other_far e = rw (← is, e)

  zeros : (i : ℕ) → (i ≡ 3 → ⊥) → 0 ≡ get_or (0 ∷ 0 ∷ 0 ∷ nat_abs far ∷ []) i 0
  zeros zero p = refl
  zeros (suc zero) p = refl
  zeros (suc (suc zero)) p = refl
  zeros (suc (suc (suc zero))) p = absurd (p refl)
  zeros (suc (suc (suc (suc i)))) p = refl

  pub other_none : (b ≡ 3 → ⊥) → 0 ≡ set_other code
  unfolding set_other
  other_none p = rw (← is) (zeros b p)

pub set_step_is : (n code l : ℕ) {x y z : ℕ}
    → x ≡ field_of (5 + l + 40) 1 code → y ≡ field_of (8 + l + 40) 1 code → z ≡ field_of (25 + l) 1 code
    → join_of (x + n * y) z 40 ≡ set_step n code l
unfolding set_step packed_set
set_step_is n code l e f g = rw (step_is n l 40 code, e, f, g)

-- ---- rows

pub same_row : {b c o p m q i r x y : ℕ} → b ≡ c → o ≡ p → m ≡ q → i ≡ r → x ≡ y
    → ◌≡◌ {A = Moving} (record { base = b; outer = o; middle = m; inner = i; other = x })
    (record { base = c; outer = p; middle = q; inner = r; other = y })
same_row e f g h j = rw (e, f, g, h, j)

pub same_set : {d e r s : ℕ} → d ≡ e → r ≡ s → join_of d r 40 ≡ packed_set e s
unfolding packed_set
same_set f g = rw (f, g)

module _ (n : ℕ) (env : List ℕ) (code : ℕ) {op : ℕ} (is : op ≡ op_field code) where
  pub set_code : {x : Moving} → op ≡ 0 → x ≡ set_row n env code → Word x ≡ row_of_code n env code
  unfolding row_of_code
  set_code e f = rw (← is, e, f)

  pub word_code : {x : Moving} → 0 < op → op < 8 → x ≡ instruction_row n env code op → Word x ≡ row_of_code n env code
  unfolding row_of_code
  word_code p h f = rw (← is, ne_eqb op 0 (λ e. omega arith), lt-ltb op 8 h, f)

  pub loop_code : {count size : ℕ} → 8 ≤ op → count ≡ place_of env 20 code → size ≡ b_field code
      → Loop (over_of op) count size ≡ row_of_code n env code
  unfolding row_of_code
  loop_code h e f = rw (← is, ne_eqb op 0 (λ e. omega arith), le-ltb op 8 h, e, f)
