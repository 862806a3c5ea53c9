-- The plan of a header, as words: it follows from the header alone. Its length, its rounds, the cells it needs and those that results are
-- copied from, as document 01 gives them. Rests on the methods' plans and on the machine's words.
use Rattle.std.specs.Prelude.{Bool, ◌&&◌, cond, List, [], ◌∷◌, map, ℕ, ◌+◌, ◌-◌, ◌*◌, ◌<◌, ◌≤◌, max, T, eqb}
use Rattle.std.proofs.Math.Option.{Option, none, some}
use Rattle.fields.specs.Fields.{field_of}
use Rattle.machine.specs.Instruction.{Instruction}
use Rattle.machine.specs.Word.{packed, encode}
use Rattle.plans.specs.declared.Header.{Header}
use Rattle.plans.specs.declared.Span.{Span}
use Rattle.plans.specs.Limits.{far, by_method, known_method, most_vertices, most_edges, source_count}
use Rattle.plans.specs.Regions.{address, cell}
use Rattle.plans.specs.Method1 as Method1
use Rattle.plans.specs.Method2 as Method2
use Rattle.plans.specs.Method3 as Method3
use Rattle.plans.specs.Method4 as Method4
use Rattle.plans.specs.Method5 as Method5

-- Header word: method 4 bits, n 20, m 20, source 20.
abbrev pub header_of : (word : ℕ) → Header
header_of w =
    record { method = field_of 60 4 w; vertices = field_of 40 20 w; edges = field_of 20 20 w; source = field_of 0 20 w }

abbrev pub header_word : Header → ℕ
header_word h = packed h.method h.vertices h.edges h.source

-- Within the limits: refusals 1 to 4 let it pass.
pub record Accepted (h : Header) : Type 0 where
  pub known : T (known_method h.method)
  pub vertices_some : 0 < h.vertices
  pub vertices_few : h.vertices ≤ most_vertices
  pub edges_few : h.edges ≤ most_edges h.method
  pub source_there : h.source < source_count h.method h.vertices

-- How many words of a request follow the header; method 5's last is the destination.
unfoldable pub word_count_of : Header → ℕ
word_count_of h = by_method h.method 0 (h.edges ∷ (h.vertices * h.vertices) ∷ h.edges ∷ h.edges ∷ (h.edges + 1) ∷ [])

unfoldable pub instructions_of : Header → List (Instruction ℕ)
instructions_of h =
    by_method h.method []
    (Method1.plan (address (Method1.starts h.vertices h.edges)) far h.vertices h.edges h.source
    ∷ Method2.plan (address (Method2.starts h.vertices)) far h.vertices h.source
    ∷ Method3.plan (address (Method3.starts h.vertices h.edges)) far h.vertices h.edges h.source
    ∷ Method4.plan (address (Method4.starts h.vertices h.edges)) far h.vertices h.edges
    ∷ Method5.plan (address (Method5.starts h.vertices h.edges)) far h.vertices h.edges h.source
    ∷ [])

-- The plan: the header word, then the operation words.
unfoldable pub plan_of : Header → List ℕ
plan_of h = header_word h ∷ map encode (instructions_of h)

-- The cells that it needs.
unfoldable pub cells_of : Header → ℕ
cells_of h =
    let n = h.vertices in
    let m = h.edges in
    by_method h.method 0 (Method1.cell_count n m ∷ Method2.cell_count n ∷ Method3.cell_count n m ∷ Method4.cell_count n m ∷ Method5.cell_count n m ∷ [])

-- The kinds of results, a lent buffer for each.
pub data Kind : Type 0 where
  distances parents route : Kind

-- What a kind has of a row of values, in the kinds' order.
abbrev pub by_kind {ℓ} : {X : Type ℓ} → (distances parents route : X) → Kind → X
by_kind d p r distances = d
by_kind d p r parents = p
by_kind d p r route = r

-- Whether it is so of every kind.
abbrev pub every_kind : (Kind → Bool) → Bool
every_kind f = f distances && f parents && f route

-- `count` cells from the first one on.
abbrev pub span : (first count : ℕ) → Span
span first count = record { first = first; count = count }

-- Of a kind that a method does not give.
abbrev pub none_given : Span
none_given = span 0 0

-- The cells that results of a kind are copied from, in their order, where a run gives them.
unfoldable pub results_of : Header → Kind → Span
results_of h =
    let n = h.vertices in
    let m = h.edges in
    by_method h.method (λ k. none_given)
    (by_kind (span (cell (Method1.starts n m) (Method1.D 0)) n) (span (cell (Method1.starts n m) (Method1.P 0)) n) none_given
    ∷ by_kind (span (cell (Method2.starts n) (Method2.D 0)) n) (span (cell (Method2.starts n) (Method2.P 0)) n) none_given
    ∷ by_kind (span (cell (Method3.starts n m) (Method3.D 0)) n) (span (cell (Method3.starts n m) (Method3.P 0)) n) none_given
    ∷ by_kind (span (cell (Method4.starts n m) (Method4.D 0)) (n * n)) none_given none_given
    ∷ by_kind (span (cell (Method5.starts n m) (Method5.D 0)) n) (span (cell (Method5.starts n m) (Method5.P 0)) n)
    (span (cell (Method5.starts n m) (Method5.R 0)) (n - 1))
    ∷ [])

-- The cell that its last word opens, the verdict's; none in a method without a verdict.
unfoldable pub verdict_cell : Header → Option ℕ
verdict_cell h =
    let n = h.vertices in
    let m = h.edges in
    by_method h.method none
    (some (cell (Method1.starts n m) (Method1.X 7))
    ∷ none
    ∷ some (cell (Method3.starts n m) (Method3.X 8))
    ∷ some (cell (Method4.starts n m) (Method4.X 5))
    ∷ some (cell (Method5.starts n m) (Method5.X 7))
    ∷ [])

-- The words that a run publishes: the verdict, where there is a cell for it.
abbrev pub published : Option ℕ → (verdict : ℕ) → List ℕ
published none verdict = []
published (some cell) verdict = verdict ∷ []

-- Its length.
unfoldable pub length_of : Header → ℕ
length_of h =
    let n = h.vertices in
    let m = h.edges in
    by_method h.method 0
    ((3 * n + 4 + m * (8 * (n * n) + 3 * n - 1))
    ∷ (n * n * n + 11 * (n * n) + 6 * n + 3)
    ∷ (3 * (n * n) + 3 * n + 5 + m * (3 * (n * n) + 10 * n - 1))
    ∷ (3 * (n * n * n) + 5 * (n * n) + 4 * n + 27 + m * (3 * (n * n) + 6 * n))
    ∷ (3 * (n * n) + 2 * n + 4 + m * (8 * (n * n) + 5 * n))
    ∷ [])

-- Its rounds, the greatest depth of its words (document 02, ask 4).
unfoldable pub rounds_of_plan : Header → ℕ
rounds_of_plan h =
    let n = h.vertices in
    let m = h.edges in
    by_method h.method 0
    (cond (eqb m 0) 2 (m * (n * n + 9 * n - 9) + n + 16)
    ∷ (9 * (n * n) + 13 * n + 1)
    ∷ cond (eqb m 0) (8 * n + 1) (9 * (n * m) + n * n + 8 * n + 7)
    ∷ cond (eqb m 0) (7 * n + 9) (7 * n + 7 * m + 16)
    ∷ cond (eqb m 0) (max 2 (n * n + 5 * n - 5)) (m * ((n - 1) * (n + 9)) + max (m * n + n + 16) (m + n * n + 5 * n + 1))
    ∷ [])
