-- Which refusal a request meets first: 1 to 8 by number, then its words upward (document 01, "Who caused it"), in each spare bits, ends, weight
-- and order (document 02, asks 1 and 3), then the destination (ask 5). Rests on headers, plans and refusals.
use Rattle.std.specs.Prelude.{Bool, ◌&&◌, List, [], ◌∷◌, ℕ, suc, ◌+◌, ltb, leb, eqb, ℤ, pos, length}
use Rattle.std.proofs.Math.Option.{Option, none, some}
use Rattle.std.specs.Int.Signed.{le_z}
use Rattle.answers.specs.Refusal.{Refusal}
use Rattle.answers.specs.Refusal.{Method, Words, Cells, Log, Results, SpareBits, Weight, FromVertex, ToVertex, Unsorted, Destination, first_of, or_else}
use Rattle.plans.specs.declared.Header.{Header}
use Rattle.plans.specs.Limits.{by_method, most_weight, least_weight, no_edge}
use Rattle.plans.specs.Plan.{header_of, word_count_of, cells_of, Kind, distances, parents, route, by_kind, every_kind, results_of, verdict_cell, published, length_of}
use Rattle.headers.specs.Refusal.{header_refusal}
use Rattle.limits.specs.declared.Lengths.{Lengths}
use Rattle.limits.specs.Word.{placed_words, destination_in, from_field, to_field, spare_of_edge, spare_of_entry, weight_of}

-- ---- sizes

-- How many words the log has: the plan's and the published one, where there is one.
unfoldable pub log_length_of : Header → ℕ
log_length_of h = length_of h + length (published (verdict_cell h) 0)

-- The length of the buffer for a kind of results.
abbrev pub room_for : Lengths → Kind → ℕ
room_for l = by_kind l.distances l.parents l.route

-- The lengths that a header asks for.
abbrev pub asked_of : Header → Lengths
asked_of h =
    record {
      cells = cells_of h;
      log = log_length_of h;
      distances = (results_of h distances).count;
      parents = (results_of h parents).count;
      route = (results_of h route).count;
    }

-- 6 to 8: a lent buffer is shorter than asked.
abbrev pub length_tests : (asked lent : Lengths) → List (Bool × Refusal)
length_tests asked lent =
    (leb asked.cells lent.cells, Cells)
    ∷ (leb asked.log lent.log, Log)
    ∷ (every_kind (λ k. leb (room_for asked k) (room_for lent k)), Results)
    ∷ []

-- 5 to 8, from the number of words after the header and the lengths of the lent buffers.
abbrev pub sizes_tests : (h : Header) (words : ℕ) → (lent : Lengths) → List (Bool × Refusal)
sizes_tests h words lent = (eqb words (word_count_of h), Words) ∷ length_tests (asked_of h) lent

unfoldable pub sizes_refusal : (h : Header) (words : ℕ) → (lent : Lengths) → Option Refusal
sizes_refusal h words lent = first_of (sizes_tests h words lent)

-- ---- the words

-- The weight is from `least` to the greatest.
unfoldable pub in_range : (least : ℤ) (w : ℕ) → Bool
in_range least w = le_z least (weight_of w) && le_z (weight_of w) (pos most_weight)

-- An edge (lane) of n vertices: its spare bits (10), the vertices that it leads from (13) and to (14), its weight (11); then `more`.
abbrev pub edge_tests : (n place w : ℕ) (more : List (Bool × Refusal)) → List (Bool × Refusal)
edge_tests n place w more =
    (eqb (spare_of_edge w) 0, SpareBits place)
    ∷ (ltb (from_field w) n, FromVertex place)
    ∷ (ltb (to_field w) n, ToVertex place)
    ∷ (in_range least_weight w, Weight place)
    ∷ more

unfoldable pub edge_refusal : (n place w : ℕ) → Option Refusal
edge_refusal n place w = first_of (edge_tests n place w [])

-- Of edges sorted by to-vertex: one's is not below that of the one before it (15).
abbrev pub order_tests : (place before w : ℕ) → List (Bool × Refusal)
order_tests place before w = (leb (to_field before) (to_field w), Unsorted place) ∷ []

unfoldable pub sorted_refusal : (n place before w : ℕ) → Option Refusal
sorted_refusal n place before w = first_of (edge_tests n place w (order_tests place before w))

-- An entry of the table: its spare bits (10), its weight (11).
abbrev pub entry_tests : (place w : ℕ) → List (Bool × Refusal)
entry_tests place w = (eqb (spare_of_entry w) 0, SpareBits place) ∷ (in_range no_edge w, Weight place) ∷ []

unfoldable pub entry_refusal : (place w : ℕ) → Option Refusal
entry_refusal place w = first_of (entry_tests place w)

-- The word at a place, and the one before it.
unfoldable pub word_refusal : (h : Header) (place before w : ℕ) → Option Refusal
word_refusal h place before w =
    by_method h.method none
    (edge_refusal h.vertices place w
    ∷ entry_refusal place w
    ∷ sorted_refusal h.vertices place before w
    ∷ edge_refusal h.vertices place w
    ∷ edge_refusal h.vertices place w
    ∷ [])

-- The first refusal of words, the first of which is at `place`.
unfoldable pub words_refusal : (h : Header) (place before : ℕ) → List ℕ → Option Refusal
words_refusal h place before [] = none
words_refusal h place before (w ∷ ws) = or_else (word_refusal h place before w) (words_refusal h (suc place) w ws)

-- What is tested after them, and told without a place: that method 5's destination is below n (16).
abbrev pub last_tests : Header → List ℕ → List (Bool × Refusal)
last_tests h ws =
    by_method h.method [] ([] ∷ [] ∷ [] ∷ [] ∷ ((ltb (destination_in h ws) h.vertices, Destination) ∷ []) ∷ [])

unfoldable pub last_refusal : Header → List ℕ → Option Refusal
last_refusal h ws = first_of (last_tests h ws)

-- ---- the request

-- From the request and the lengths of the lent buffers. Before its first word stands 0, whose to-vertex is above none.
unfoldable pub request_refusal : (request : List ℕ) → (lent : Lengths) → Option Refusal
request_refusal [] lent = some Method
request_refusal (w ∷ ws) lent =
    let h = header_of w in
    or_else (header_refusal h)
    (or_else (sizes_refusal h (length ws) lent) (or_else (words_refusal h 0 0 (placed_words h ws)) (last_refusal h ws)))
