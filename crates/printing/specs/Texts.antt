-- The text of a run's outcome, in bytes, as the desk's program prints it (document 01, "The desk's program"), and its log's text.
-- Rests on the outcomes of runs and text's lines.
use Rattle.std.proofs.Math.Option.{Option, none, some}
use Rattle.std.specs.Prelude.{Bool, cond, not, ◌&&◌, ◌||◌, List, [], ◌∷◌, ◌++◌, ℕ, ◌+◌, ◌-◌, ◌*◌, eqb, ℤ, pos, length, get_or}
use Rattle.std.specs.Int.Signed.{lt_z}
use Rattle.text.specs.Text.{blank, dash, newline, decimal, signed, hexadecimal, line_of, numbers_line}
use Rattle.answers.specs.Told.{Told}
use Rattle.machine.specs.Effect.{eq_z}
use Rattle.plans.specs.Blocks.{flat}
use Rattle.plans.specs.Limits.{far, by_method}
use Rattle.plans.specs.declared.Header.{Header}
use Rattle.plans.specs.Plan.{distances, parents, route}
use Rattle.limits.specs.WithinLimits.{header_in}
use Rattle.demands.specs.Run.{Outcome}
use Rattle.demands.specs.Network.{sources_of}

-- ---- `yard distance parent`, in method 4 `from to distance`: with `all` for each, otherwise for those that are reached (document 02, asks 6 and 8)

-- A dash for unreached, and for no parent.
abbrev pub distance_text : ℤ → List ℕ
distance_text z = cond (eq_z z far) (dash ∷ []) (signed z)

abbrev pub parent_text : ℤ → List ℕ
parent_text z = cond (lt_z z (pos 0)) (dash ∷ []) (signed z)

abbrev pub yard_text : (v : ℕ) (distance parent : ℤ) → List ℕ
yard_text v distance parent = line_of (decimal v ∷ distance_text distance ∷ parent_text parent ∷ [])

abbrev pub pair_text : (source v : ℕ) (distance : ℤ) → List ℕ
pair_text source v distance = line_of (decimal source ∷ decimal v ∷ distance_text distance ∷ [])

-- The line of a vertex with its distance from a source, and its parent where there are parents.
unfoldable pub line_text : Header → (source v : ℕ) (distance parent : ℤ) → List ℕ
line_text h source v distance parent =
    let yard = yard_text v distance parent in
    by_method h.method [] (yard ∷ yard ∷ yard ∷ pair_text source v distance ∷ yard ∷ [])

-- Whether a vertex has no line.
abbrev pub left_out : (all : Bool) (distance : ℤ) → Bool
left_out all z = not all && eq_z z far

-- The line, if it has one.
abbrev pub listed_text : (all : Bool) (distance : ℤ) (line : List ℕ) → List ℕ
listed_text all z line = cond (left_out all z) [] line

-- For each source a row: for each vertex its line.
unfoldable pub rows_text : (all : Bool) → Header → (distances parents : List ℤ) → List ℕ
rows_text all h ds ps =
    flat (length (sources_of h))
    (λ r.
    flat h.vertices
    (λ v.
    let d = get_or ds (r * h.vertices + v) (pos 0) in
    listed_text all d (line_text h (get_or (sources_of h) r 0) v d (get_or ps v (pos 0)))))

-- ---- `route` and the edges shown, without padding; in method 5 alone (document 02, ask 5)

-- A blank and its number.
abbrev pub step_text : (edge : ℤ) → List ℕ
step_text z = cond (lt_z z (pos 0)) [] (blank ∷ signed z)

-- For each of the first `count` places.
abbrev pub steps_text : (count : ℕ) (route : List ℤ) → List ℕ
steps_text count rs = flat count (λ k. step_text (get_or rs k (pos 0)))

-- "route"
abbrev pub route_word : List ℕ
route_word = 114 ∷ 111 ∷ 117 ∷ 116 ∷ 101 ∷ []

abbrev pub route_text : Header → (route : List ℤ) → List ℕ
route_text h rs = by_method h.method [] ([] ∷ [] ∷ [] ∷ [] ∷ (route_word ++ (steps_text (h.vertices - 1) rs ++ (newline ∷ []))) ∷ [])

-- ---- `method yards lanes source rounds verdict`, then the rows and the route

-- A run tells its rounds, log length and verdict.
abbrev pub first_numbers : Header → (values : List ℕ) → List ℕ
first_numbers h values = h.method ∷ h.vertices ∷ h.edges ∷ h.source ∷ get_or values 0 0 ∷ get_or values 2 0 ∷ []

abbrev pub results_text : (all : Bool) → Header → (values : List ℕ) (distances parents route : List ℤ) → List ℕ
results_text all h values ds ps rs = numbers_line (first_numbers h values) ++ (rows_text all h ds ps ++ route_text h rs)

-- ---- `refused number place`, the place where there is one

abbrev pub place_if_any : Option ℕ → List ℕ
place_if_any (some place) = place ∷ []
place_if_any none = []

-- "refused "
abbrev pub refused_word : List ℕ
refused_word = 114 ∷ 101 ∷ 102 ∷ 117 ∷ 115 ∷ 101 ∷ 100 ∷ 32 ∷ []

abbrev pub refusal_text : (number : ℕ) → Option ℕ → List ℕ
refusal_text number place = refused_word ++ numbers_line (number ∷ place_if_any place)

-- ---- an answer

abbrev pub told_text : (all : Bool) → Header → Told → (distances parents route : List ℤ) → List ℕ
told_text all h t ds ps rs =
    cond (eqb t.number 0) (results_text all h t.values ds ps rs) (refusal_text t.number t.place)

unfoldable pub text_of : (all : Bool) (request : List ℕ) → Outcome → List ℕ
text_of all request o = told_text all (header_in request) o.answer (o.results distances) (o.results parents) (o.results route)

-- ---- a log, a word a line: of a request that ran, which met no refusal, or 12 alone

abbrev pub words_text : (count : ℕ) (words : List ℕ) → List ℕ
words_text count words = flat count (λ k. line_of (hexadecimal (get_or words k 0) ∷ []))

abbrev pub told_log : Told → (log : List ℕ) → List ℕ
told_log t log =
    cond (eqb t.number 0 || eqb t.number 12) (words_text (get_or t.values 1 0) log)
    (refusal_text t.number t.place)

unfoldable pub log_text : Outcome → List ℕ
log_text o = told_log o.answer o.log
