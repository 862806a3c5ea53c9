-- The text of a refusal whose number has one digit is printed of no other answer: results begin with a digit, and a longer number has two.
-- Rests on the definitions alone.
use mathlib.Core.Path.{◌≡◌, sym, ap, ◌∙◌}
use mathlib.Core.Bool.{Bool, false}
use mathlib.Core.List.{List, [], ◌∷◌, ◌++◌, map, append_assoc}
use mathlib.Core.Option.{Option}
use Prim.Native.Nat.{ℕ, zero, suc, ◌+◌, ◌/◌, ◌%◌, ◌<◌, ◌≤◌}
use native.Mathlib.Omega.{arith}
use borrow.Author.Tests.{eqb-true, lt-ltb}
use lib.Dec.{eqb}
use lib.IntN.{ℤ}
use lib.ListN.{length, get_or, drop}
use Rattle.lists.proofs.Test.{by_test}
use Rattle.io.specs.Digits.{hex_digit_ascii}
use Rattle.text.specs.Text.{leading, decimal, after_word, line_of, numbers_line}
use Rattle.answers.specs.Told.{Told}
use Rattle.plans.specs.declared.Header.{Header}
use Rattle.printing.specs.Texts.{rows_text, route_text, first_numbers, results_text, place_if_any, refusal_text, told_text}

-- ---- numbers begin with digits

abbrev Digit : (byte : ℕ) → Type 0
Digit byte = (48 ≤ byte) × (byte ≤ 57)

shown : (n : ℕ) → hex_digit_ascii (n % 10) ≡ 48 + n % 10
shown n = rw (lt-ltb (n % 10) 10 (omega arith))

digit : (n : ℕ) → Digit (hex_digit_ascii (n % 10))
digit n = (omega (arith, shown n), omega (arith, shown n))

-- The first bytes, as many as `count`.
abbrev Digits : (count : ℕ) → List ℕ → Type 0
Digits count bytes = (i : ℕ) → i < count → Digit (get_or bytes i 0)

one_more : (n count : ℕ) (bytes : List ℕ) → Digits count bytes → Digits (suc count) (hex_digit_ascii (n % 10) ∷ bytes)
one_more n count bytes ds zero l = digit n
one_more n count bytes ds (suc i) l = ds i (omega arith)

after_leading : (most rest count : ℕ) (bytes : List ℕ) → Digits count bytes → Digits count (leading most rest ++ bytes)
unfolding leading
after_leading zero rest count bytes ds = ds
after_leading (suc most) rest count bytes ds =
    by_test (eqb rest 0) (λ e. rw e ds)
    (λ e.
    rw (e, append_assoc (leading most (rest / 10)) (hex_digit_ascii (rest % 10) ∷ []) bytes)
    (after_leading most (rest / 10) count (hex_digit_ascii (rest % 10) ∷ bytes) (λ i l. one_more rest count bytes ds i (omega arith))))

module _ (n : ℕ) (bytes : List ℕ) where
  first_digit : Digit (get_or (decimal n ++ bytes) 0 0)
  unfolding decimal
  first_digit =
      rw (append_assoc (leading 19 (n / 10)) (hex_digit_ascii (n % 10) ∷ []) bytes)
      (after_leading 19 (n / 10) 1 (hex_digit_ascii (n % 10) ∷ bytes)
      (one_more n 0 bytes (λ i l. let no : ⊥ = omega arith in absurd no)) 0 (omega arith))

  -- From 10 on the second byte is one, too; below 10 there is one digit alone.
  second_digit : eqb (n / 10) 0 ≡ false → Digit (get_or (decimal n ++ bytes) 1 0)
  unfolding decimal leading
  second_digit e =
      let low = hex_digit_ascii (n % 10) ∷ [] in
      let tens = hex_digit_ascii (n / 10 % 10) ∷ [] in
      rw (e, append_assoc (leading 18 (n / 10 / 10) ++ tens) low bytes, append_assoc (leading 18 (n / 10 / 10)) tens (low ++ bytes))
      (after_leading 18 (n / 10 / 10) 2 (tens ++ (low ++ bytes))
      (one_more (n / 10) 1 (low ++ bytes) (one_more n 0 bytes (λ i l. let no : ⊥ = omega arith in absurd no))) 1 (omega arith))

  alone : n < 10 → decimal n ++ bytes ≡ (48 + n) ∷ bytes
  unfolding decimal leading
  alone few =
      let none_above : n / 10 ≡ 0 = omega arith in
      let itself : n % 10 ≡ n = omega arith in
      rw (none_above, itself, lt-ltb n 10 few)

-- What comes after a number: a blank or a newline, and the numbers left.
abbrev after_number : (left : List ℕ) → List ℕ
after_number left = after_word (length (map decimal left)) ∷ numbers_line left

after_low : (left : List ℕ) → get_or (after_number left) 0 0 ≤ 32
after_low left = by_test (eqb (length (map decimal left)) 0) (λ e. rw e (omega arith)) (λ e. rw e (omega arith))

-- ---- the text of an answer

module _ (all : Bool) (h : Header) (t : Told) (ds ps rs : List ℤ) (k : ℕ) (few : k < 10) (place : Option ℕ) where
  not_results : results_text all h t.values ds ps rs ≡ refusal_text k place → ⊥
  unfolding line_of
  not_results e =
      let numbers = first_numbers h t.values in
      let left = after_number (drop 1 numbers) in
      let lines = rows_text all h ds ps ++ route_text h rs in
      let byte : get_or (decimal (get_or numbers 0 0) ++ (left ++ lines)) 0 0 ≡ 114 =
      ap (λ xs. get_or xs 0 0) (sym (append_assoc (decimal (get_or numbers 0 0)) left lines) ∙ e) in
      omega (arith, byte, first_digit (get_or numbers 0 0) (left ++ lines))

  same_number : refusal_text t.number t.place ≡ refusal_text k place → t.number ≡ k
  unfolding line_of
  same_number e =
      let left = after_number (place_if_any t.place) in
      let left' = after_number (place_if_any place) in
      let number : decimal t.number ++ left ≡ (48 + k) ∷ left' = ap (drop 8) e ∙ alone k left' few in
      by_test (eqb (t.number / 10) 0)
      (λ is.
      let one : t.number / 10 ≡ 0 = eqb-true _ 0 is in
      omega (arith, ap (λ xs. get_or xs 0 0) (sym (alone t.number left (omega arith)) ∙ number)))
      (λ is.
      let no : ⊥ = omega (arith, second_digit t.number left is, ap (λ xs. get_or xs 1 0) number, after_low (place_if_any place)) in
      absurd no)

  pub told_by : told_text all h t ds ps rs ≡ refusal_text k place → t.number ≡ k
  told_by e =
      by_test (eqb t.number 0) (λ is. absurd (not_results (rw is at e))) (λ is. same_number (rw is at e))
