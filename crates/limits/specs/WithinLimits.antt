-- The limits of document 01 for a request and the buffers lent for it, in its own numbers, as plain propositions, each with the number that is told
-- where it is the first that is not kept. Rests on the fields of words alone; no test of a refusal is named.
use Rattle.std.specs.Prelude.{◌≡◌, ◌⊎◌, List, [], ◌∷◌, ◌++◌, ℕ, ◌+◌, ◌-◌, ◌*◌, ◌<◌, ◌≤◌, pos, negsuc, length, get_or, drop, ◌≤ℤ◌}
use Rattle.plans.specs.declared.Header.{Header}
use Rattle.plans.specs.Limits.{by_method}
use Rattle.plans.specs.Plan.{header_of, Kind, by_kind}
use Rattle.limits.specs.declared.Lengths.{Lengths}
use Rattle.limits.specs.Word.{placed_words, destination_in, from_field, to_field, spare_of_edge, spare_of_entry, weight_of}
use Rattle.limits.specs.Refusal.{room_for}

-- A request's header, and the words after it.
abbrev pub header_in : (request : List ℕ) → Header
header_in request = header_of (get_or request 0 0)

abbrev pub words_in : (request : List ℕ) → List ℕ
words_in request = drop 1 request

-- Those that have a place.
abbrev pub placed_in : (request : List ℕ) → List ℕ
placed_in request = placed_words (header_in request) (words_in request)

-- ---- limits in the order in which they are tested, with their numbers

-- Every one is kept.
abbrev pub AllKept : List (ℕ × Type 0) → Type 0
AllKept [] = Unit {0}
AllKept (l ∷ ls) = l.1 × AllKept ls

-- The first that is not kept has this number.
abbrev pub FirstBroken : List (ℕ × Type 0) → (number : ℕ) → Type 0
FirstBroken [] number = ⊥
FirstBroken (l ∷ ls) number = ((number ≡ l.0) × ¬ l.1) ⊎ (l.1 × FirstBroken ls number)

-- ---- what is public of a request, and what is lent for it

-- One of these numbers.
abbrev pub OneOf : List ℕ → (k : ℕ) → Type 0
OneOf [] k = ⊥
OneOf (x ∷ xs) k = (k ≡ x) ⊎ OneOf xs k

-- Of the header's numbers: the source is below n, in method 4, whose every vertex is a source, 0.
abbrev pub header_limits : (method n m source : ℕ) → List (ℕ × Type 0)
header_limits method n m source =
    (1, OneOf (1 ∷ 2 ∷ 3 ∷ 4 ∷ 5 ∷ []) method)
    ∷ (2, (1 ≤ n) × (n ≤ 32))
    ∷ (3, m ≤ by_method method 0 (128 ∷ 0 ∷ 128 ∷ 128 ∷ 128 ∷ []))
    ∷ (4, source < by_method method n (n ∷ n ∷ n ∷ 1 ∷ n ∷ []))
    ∷ []

-- The cells.
abbrev pub cells_figure : (method n m : ℕ) → ℕ
cells_figure method n m =
    by_method method 0
    ((3 * m + 3 * n + 8) ∷ (n * n + 5 * n + 6) ∷ (2 * (n * m) + 4 * m + 5 * n + 10) ∷ (3 * m + n * n + 3 * n + 6) ∷ (3 * m + 5 * n + 8) ∷ [])

-- The words of the log, the published one among them.
abbrev pub log_figure : (method n m : ℕ) → ℕ
log_figure method n m =
    by_method method 0
    ((3 * n + 5 + m * (8 * (n * n) + 3 * n - 1))
    ∷ (n * n * n + 11 * (n * n) + 6 * n + 3)
    ∷ (3 * (n * n) + 3 * n + 6 + m * (3 * (n * n) + 10 * n - 1))
    ∷ (3 * (n * n * n) + 5 * (n * n) + 4 * n + 28 + m * (3 * (n * n) + 6 * n))
    ∷ (3 * (n * n) + 2 * n + 5 + m * (8 * (n * n) + 5 * n))
    ∷ [])

-- The results of each kind: n distances and n parents, in method 4 n² distances and no parents, in method 5 a route of n - 1 places, too.
abbrev pub results_figure : (method n : ℕ) → Kind → ℕ
results_figure method n =
    by_method method (λ k. 0) (by_kind n n 0 ∷ by_kind n n 0 ∷ by_kind n n 0 ∷ by_kind (n * n) 0 0 ∷ by_kind n n (n - 1) ∷ [])

-- Of how many words come after it, and of the lengths of the lent buffers.
abbrev pub sizes_limits : (method n m words : ℕ) (lent : Lengths) → List (ℕ × Type 0)
sizes_limits method n m words lent =
    (5, words ≡ by_method method 0 (m ∷ n * n ∷ m ∷ m ∷ (m + 1) ∷ []))
    ∷ (6, cells_figure method n m ≤ lent.cells)
    ∷ (7, log_figure method n m ≤ lent.log)
    ∷ (8, (k : Kind) → results_figure method n k ≤ room_for lent k)
    ∷ []

-- 1 is told of a missing header word, too.
abbrev pub public_limits : (request : List ℕ) (lent : Lengths) → List (ℕ × Type 0)
public_limits request lent =
    (1, 1 ≤ length request)
    ∷ (header_limits (header_in request).method (header_in request).vertices (header_in request).edges (header_in request).source
    ++ sizes_limits (header_in request).method (header_in request).vertices (header_in request).edges (length (words_in request)) lent)

-- ---- the words after the header (document 02, asks 1, 3 and 5)

-- An edge (lane): its spare bits are zero, it leads from and to vertices below n, its weight (price) is from -100,000,000 to 100,000,000; then `more`.
abbrev pub edge_limits : (n word : ℕ) (more : List (ℕ × Type 0)) → List (ℕ × Type 0)
edge_limits n word more =
    (10, spare_of_edge word ≡ 0)
    ∷ (13, from_field word < n)
    ∷ (14, to_field word < n)
    ∷ (11, (negsuc 99999999 ≤ℤ weight_of word) × (weight_of word ≤ℤ pos 100000000))
    ∷ more

-- Method 3 besides: its to-vertex is not below that of the edge before it.
abbrev pub order_limits : (before word : ℕ) → List (ℕ × Type 0)
order_limits before word = (15, to_field before ≤ to_field word) ∷ []

-- Method 2, an entry of the table: its spare bits are zero, its weight is from 0 to 100,000,000, or -1 for no edge.
abbrev pub entry_limits : (word : ℕ) → List (ℕ × Type 0)
entry_limits word =
    (10, spare_of_entry word ≡ 0)
    ∷ (11, (weight_of word ≡ negsuc 0) ⊎ ((pos 0 ≤ℤ weight_of word) × (weight_of word ≤ℤ pos 100000000)))
    ∷ []

abbrev pub word_limits : (method n before word : ℕ) → List (ℕ × Type 0)
word_limits method n before word =
    by_method method []
    (edge_limits n word [] ∷ entry_limits word ∷ edge_limits n word (order_limits before word) ∷ edge_limits n word [] ∷ edge_limits n word [] ∷ [])

-- Of a request's word at a place, counted from the word after the header. Before the first word stands 0, whose to-vertex is above none.
abbrev pub limits_at : (request : List ℕ) (place : ℕ) → List (ℕ × Type 0)
limits_at request place =
    word_limits (header_in request).method (header_in request).vertices (get_or (0 ∷ placed_in request) place 0) (get_or (placed_in request) place 0)

-- Method 5: its destination is below n. It is told without a place, after the words that have one.
abbrev pub last_of : (method n destination : ℕ) → List (ℕ × Type 0)
last_of method n destination = by_method method [] ([] ∷ [] ∷ [] ∷ [] ∷ ((16, destination < n) ∷ []) ∷ [])

abbrev pub last_limits : (request : List ℕ) → List (ℕ × Type 0)
last_limits request =
    last_of (header_in request).method (header_in request).vertices (destination_in (header_in request) (words_in request))

-- ---- the request

-- It keeps all of them.
pub record WithinLimits (request : List ℕ) (lent : Lengths) : Type 0 where
  pub public : AllKept (public_limits request lent)
  pub words : (place : ℕ) → place < length (placed_in request) → AllKept (limits_at request place)
  pub last : AllKept (last_limits request)

-- It keeps those that are public and those of every word before a place; the word there breaks one, and the first has this number.
pub record BrokenAt (request : List ℕ) (lent : Lengths) (place number : ℕ) : Type 0 where
  pub public : AllKept (public_limits request lent)
  pub words_before : (i : ℕ) → i < place → AllKept (limits_at request i)
  pub there : place < length (placed_in request)
  pub broken : FirstBroken (limits_at request place) number

-- It keeps those that are public and those of every word that has a place; of the limits after them it breaks one, and the first has this number.
pub record BrokenLast (request : List ℕ) (lent : Lengths) (number : ℕ) : Type 0 where
  pub public : AllKept (public_limits request lent)
  pub words : (place : ℕ) → place < length (placed_in request) → AllKept (limits_at request place)
  pub broken : FirstBroken (last_limits request) number
