-- The words after a request's header (document 01, "Request words"), by their fields. In methods 1, 3, 4 and 5 an edge (lane) a word: from 8
-- bits, to 8, spare 16, weight (price) 32; in method 2 an entry of the table a word: spare 32, weight 32; in method 5 one word more, the destination
-- (document 02, ask 5). Rests on bit fields and two's complement.
use Rattle.std.specs.Prelude.{List, [], ◌∷◌, ℕ, ◌*◌, ℤ, get_or, take}
use Rattle.fields.specs.Fields.{field_of, signed_of}
use Rattle.plans.specs.declared.Header.{Header}
use Rattle.plans.specs.Limits.{by_method}

-- ---- which words there are

-- How many have a place: an edge's or an entry's each.
abbrev pub placed_count : (method n m : ℕ) → ℕ
placed_count method n m = by_method method 0 (m ∷ n * n ∷ m ∷ m ∷ m ∷ [])

abbrev pub placed_words : Header → List ℕ → List ℕ
placed_words h ws = take (placed_count h.method h.vertices h.edges) ws

-- Method 5: the destination, the whole word after them.
abbrev pub destination_in : Header → List ℕ → ℕ
destination_in h ws = get_or ws h.edges 0

-- ---- fields

abbrev pub from_field : ℕ → ℕ
from_field = field_of 56 8

abbrev pub to_field : ℕ → ℕ
to_field = field_of 48 8

abbrev pub spare_of_edge : ℕ → ℕ
spare_of_edge = field_of 32 16

abbrev pub spare_of_entry : ℕ → ℕ
spare_of_entry = field_of 32 32

unfoldable pub weight_of : ℕ → ℤ
weight_of w = signed_of 32 (field_of 0 32 w)
