-- Numbers and lines as text, in bytes of ASCII, whether two texts are the same, and what it means that a text is written to a buffer.
-- Rests on io's digits.
use Rattle.std.specs.Prelude.{◌≡◌, Bool, true, false, cond, ◌&&◌, List, [], ◌∷◌, ◌++◌, map, ℕ, zero, suc, ◌+◌, ◌/◌, ◌%◌, ◌≤◌, eqb, ℤ, pos, negsuc, length}
use Rattle.std.proofs.lemmas.List.Edits.{sets}
use Rattle.io.specs.Digits.{hex_digit_ascii, last_digits}

abbrev pub blank : ℕ
blank = 32

abbrev pub dash : ℕ
dash = 45

abbrev pub newline : ℕ
newline = 10

-- The digits before the last one, at most `most` of them: those of `rest` tens, none where there are none.
unfoldable pub leading : (most rest : ℕ) → List ℕ
leading zero rest = []
leading (suc most) rest = cond (eqb rest 0) [] (leading most (rest / 10) ++ (hex_digit_ascii (rest % 10) ∷ []))

-- A number below 10^20, as every word is, with no leading zeros.
unfoldable pub decimal : ℕ → List ℕ
decimal n = leading 19 (n / 10) ++ (hex_digit_ascii (n % 10) ∷ [])

-- A dash before a negative one.
unfoldable pub signed : ℤ → List ℕ
signed (pos n) = decimal n
signed (negsuc n) = dash ∷ decimal (suc n)

-- A word of 64 bits in 16 digits, `a` to `f` above 9.
unfoldable pub hexadecimal : ℕ → List ℕ
hexadecimal word = last_digits 16 16 word

-- Words with a blank between them and a newline at the end; no line where there are none.
abbrev pub after_word : (left : ℕ) → ℕ
after_word left = cond (eqb left 0) newline blank

unfoldable pub line_of : (words : List (List ℕ)) → List ℕ
line_of [] = []
line_of (word ∷ words) = word ++ (after_word (length words) ∷ line_of words)

abbrev pub numbers_line : (numbers : List ℕ) → List ℕ
numbers_line numbers = line_of (map decimal numbers)

-- Whether two texts have the same bytes.
unfoldable pub same_bytes : (one other : List ℕ) → Bool
same_bytes [] [] = true
same_bytes [] (y ∷ ys) = false
same_bytes (x ∷ xs) [] = false
same_bytes (x ∷ xs) (y ∷ ys) = eqb x y && same_bytes xs ys

-- `text` is written from place `at` on and ends before place `end`: at most `most` bytes of it, and nothing else is changed.
pub record Put (most : ℕ) (text before after : List ℕ) (at end : ℕ) : Type 0 where
  pub written : after ≡ sets before at text
  pub ends : end ≡ at + length text
  pub short : end ≤ at + most
  pub long : length after ≡ length before
