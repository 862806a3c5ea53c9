-- From the bytes that the desk's program reads to the words of a request (document 01, "The desk's program"): eight bytes a word, most
-- significant first. Rests on bit fields.
use Rattle.std.specs.Prelude.{cond, List, [], ◌∷◌, ℕ, zero, suc, ◌+◌, ◌*◌, ◌/◌, ◌%◌, min, ltb, eqb, length, get_or, take, replicate}
use Rattle.lists.specs.Buffers.{overwritten}
use Rattle.fields.specs.Fields.{join_of}
use Rattle.plans.specs.Blocks.{flat}

-- The bytes from place `at` on, `count` of them, joined.
unfoldable pub joined_from : (bytes : List ℕ) (at count : ℕ) → ℕ
joined_from bytes at zero = 0
joined_from bytes at (suc count) = join_of (joined_from bytes at count) (get_or bytes (at + count) 0) 8

-- Word k.
abbrev pub word_at : (bytes : List ℕ) (k : ℕ) → ℕ
word_at bytes k = joined_from bytes (8 * k) 8

-- One word more than the longest request has. Nothing is read beyond it: a longer input is too long as it stands.
abbrev pub too_many : ℕ
too_many = 1026

abbrev pub whole_count : (size : ℕ) → ℕ
whole_count size = min (size / 8) too_many

unfoldable pub whole_words : (bytes : List ℕ) → List ℕ
whole_words bytes = flat (whole_count (length bytes)) (λ k. word_at bytes k ∷ [])

-- How many words the bytes count as. A broken last word makes it too many, so that it counts for 5, after 1 to 4.
unfoldable pub handed_over : (size : ℕ) → ℕ
handed_over size = cond (ltb size 8) 0 (cond (eqb (size % 8) 0) (whole_count size) too_many)

-- The request that the bytes make: that many words, the whole ones and then zeros.
unfoldable pub request_of : (bytes : List ℕ) → List ℕ
request_of bytes = take (handed_over (length bytes)) (overwritten (whole_words bytes) (replicate too_many 0))
