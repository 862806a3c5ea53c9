-- How many words bytes count as, and what stands in the buffer of words: what the code's tests and lengths need.
-- Rests on the laws of blocks and lists' Slices.
use mathlib.Core.Path.{◌≡◌, refl, sym, ◌∙◌}
use mathlib.Core.Logic.{⊎_elim}
use mathlib.Core.Bool.{Bool, true, false, cond}
use mathlib.Core.List.{List, [], ◌∷◌}
use Prim.Native.Nat.{ℕ, zero, suc, ◌/◌, ◌%◌, ◌<◌, ◌≤◌}
use native.Mathlib.Nat.{eq-zero-or-pos}
use native.Mathlib.Omega.{arith}
use lib.Dec.{ltb, eqb}
use lib.ListN.{length, get_or, drop, take, replicate, length-append, length-drop, get_or-replicate}
use lib.Seq.{get_or-take}
use borrow.Author.Tests.{lt-ltb, le-ltb, eq-eqb, ne_eqb}
use Rattle.lists.specs.Buffers.{overwritten}
use Rattle.lists.proofs.Slices.{counted}
use Rattle.plans.proofs.Blocks.{ones_length, ones_at}
use Rattle.printing.specs.Bytes.{word_at, too_many, whole_count, whole_words, handed_over, request_of}

-- ---- how many, by the tests

pub none_handed : (size : ℕ) → size < 8 → 0 ≡ handed_over size
unfolding handed_over
none_handed size h = rw (lt-ltb size 8 h)

pub whole_handed : (size : ℕ) → 8 ≤ size → size % 8 ≡ 0 → whole_count size ≡ handed_over size
unfolding handed_over
whole_handed size h e = rw (le-ltb size 8 h, eq-eqb (size % 8) 0 e)

pub broken_handed : (size : ℕ) → 8 ≤ size → (size % 8 ≡ 0 → ⊥) → too_many ≡ handed_over size
unfolding handed_over
broken_handed size h n = rw (le-ltb size 8 h, ne_eqb (size % 8) 0 n)

by_tests : (a b : Bool) (size : ℕ) → cond a 0 (cond b (whole_count size) too_many) ≤ too_many
by_tests true b size = omega arith
by_tests false true size = omega arith
by_tests false false size = omega arith

pub handed_most : (size : ℕ) → handed_over size ≤ too_many
unfolding handed_over
handed_most size = by_tests (ltb size 8) (eqb (size % 8) 0) size

some_by : (a b : Bool) (size : ℕ) → 8 ≤ size → a ≡ false → 0 < cond a 0 (cond b (whole_count size) too_many)
some_by true b size h e = let z : ◌≡◌ {A = ℕ} 0 1 = cc in let no : ⊥ = omega arith in absurd no
some_by false true size h e = omega arith
some_by false false size h e = omega arith

pub some_handed : (size : ℕ) → 8 ≤ size → 0 < handed_over size
unfolding handed_over
some_handed size h = some_by (ltb size 8) (eqb (size % 8) 0) size h (le-ltb size 8 h)

-- ---- the words

pub whole_length : (bytes : List ℕ) → length (whole_words bytes) ≡ whole_count (length bytes)
unfolding whole_words
whole_length bytes = ones_length (word_at bytes) (whole_count (length bytes))

pub whole_at : (bytes : List ℕ) (k : ℕ) → k < whole_count (length bytes) → get_or (whole_words bytes) k 0 ≡ word_at bytes k
unfolding whole_words
whole_at bytes k h = ones_at (word_at bytes) (whole_count (length bytes)) 0 k h

-- Over any n: a list of 1,026 zeros is not to be written out.
pub padded_length : (n : ℕ) (ws : List ℕ) → length ws ≤ n → length (overwritten ws (replicate n 0)) ≡ n
padded_length n ws h =
    length-append ws (drop (length ws) (replicate n 0))
    ∙ omega (arith, length-drop {A = ℕ} (length ws) (replicate n 0), counted {X = ℕ} n 0)

-- The first word is the first of those handed over; where there are none, it is 0.
first_of_is : (n k : ℕ) (ws : List ℕ) → 0 < n → (k ≡ 0 → length ws ≡ 0) → get_or (overwritten ws (replicate n 0)) 0 0 ≡ get_or (take k (overwritten ws (replicate n 0))) 0 0
first_of_is n zero [] h e = get_or-replicate n 0 0 0 h
first_of_is n zero (w ∷ ws) h e = let z : length (w ∷ ws) ≡ 0 = e refl in let no : ⊥ = omega arith in absurd no
first_of_is n (suc k) ws h e = sym (get_or-take (suc k) (overwritten ws (replicate n 0)) 0 0 (omega arith))

pub first_word : (bytes : List ℕ) → get_or (overwritten (whole_words bytes) (replicate too_many 0)) 0 0 ≡ get_or (request_of bytes) 0 0
unfolding request_of
first_word bytes =
    first_of_is too_many (handed_over (length bytes)) (whole_words bytes) (omega arith)
    (λ (z : handed_over (length bytes) ≡ 0). ⊎_elim (λ (h : length bytes / 8 ≡ 0). omega (arith, whole_length bytes))
    (λ (h : 0 < length bytes / 8). let no : ⊥ = omega (arith, some_handed (length bytes) (omega arith)) in absurd no)
    (eq-zero-or-pos (length bytes / 8)))
