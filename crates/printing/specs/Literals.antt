-- A quoted text as its bytes, and words as theirs, by which facts are written down: no definition of a request or of a text uses them.
-- Rests on the toolchain's library alone.
use Rattle.std.specs.Prelude.{List, [], ◌∷◌, ◌++◌, ℕ, zero, suc, ◌/◌, ◌%◌, ◌^◌}
use Prim.Native.Char.{code}
use Prim.Native.String.{String, [] as no_more, ◌∷◌ as ◌then◌}

-- The codes of its characters, in ASCII its bytes.
abbrev pub text : String → List ℕ
text no_more = []
text (c then rest) = code c ∷ text rest

-- The last `count` bytes of a word, the most significant first.
abbrev pub last_bytes : (count word : ℕ) → List ℕ
last_bytes zero word = []
last_bytes (suc count) word = word / 256 ^ count % 256 ∷ last_bytes count word

-- Eight bytes a word.
abbrev pub bytes_of : (words : List ℕ) → List ℕ
bytes_of [] = []
bytes_of (word ∷ words) = last_bytes 8 word ++ bytes_of words
