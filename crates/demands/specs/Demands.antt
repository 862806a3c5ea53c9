-- The three demands, about the very definitions that the contracts of `run` and `run_plan` cite: for every request, foreign plan and lent
-- buffer, nothing assumed of their words. Rests on everything below; the proofs are in proofs/.
use Rattle.std.specs.Prelude.{◌≡◌, ◌↔◌, ◌⊎◌, ◌≢◌, List, [], ◌∷◌, ◌++◌, ℕ, ◌+◌, ◌*◌, ◌^◌, ◌<◌, ◌≤◌, ℤ, pos, length, get_or, take, drop}
use Rattle.std.proofs.Math.Option.{none, some}
use Rattle.answers.specs.Refusal.{Refusal}
use Rattle.answers.specs.Refusal.{plain, placed}
use Rattle.answers.specs.Told.{refused}
use Rattle.machine.specs.Instruction.{All}
use Rattle.machine.specs.Effect.{cell_at}
use Rattle.machine.specs.Log.{Spares, replay, AsTheyStood, without_published}
use Rattle.machine.specs.Depth.{charge_of}
use Rattle.plans.specs.Limits.{far}
use Rattle.plans.specs.Plan.{cells_of, instructions_of, plan_of, Kind, distances, parents, results_of, verdict_cell, published, rounds_of_plan}
use Rattle.runner.specs.Runner.{log_size, runner_refusal, PlanOutcome, plan_outcome, plan_rounds_in, plan_length_in, plan_log_in}
use Rattle.runner.specs.PlanWithin.{PlanWithin, NotAllowedAt, LogShort}
use Rattle.limits.specs.Refusal.{log_length_of}
use Rattle.limits.specs.WithinLimits.{header_in, words_in, FirstBroken, public_limits, WithinLimits, BrokenAt, BrokenLast}
use Rattle.intake.specs.Intake.{source_of, laid}
use Rattle.graph.specs.Walk.{NegativeCycle}
use Rattle.graph.specs.Shortest.{Distances, Parents, Shortest}
use Rattle.graph.specs.Floyd.{Anywhere}
use Rattle.methods.specs.Bank.{Summed, Exact}
use Rattle.demands.specs.Run.{Lent, lengths_of, refusal_of, start_of, Outcome, refused_by, outcome}
use Rattle.demands.specs.Network.{network_in, naming_in, sources_of, CycleFrom}
use Rattle.demands.specs.Besides.{besides_of}
use Rattle.demands.specs.Sums.{sum_bound}

-- A request ran when it met no refusal, or 12 alone; 12 is told after the run.
abbrev pub RanOn : (request : List ℕ) → Lent → Type 0
RanOn request lent = refusal_of request lent ≡ none

-- What was told: rounds, log length and verdict; and the log, that many words from the start of the log buffer. Of any outcome, and of the run's.
module _ (o : Outcome) where
  abbrev pub rounds_in : ℕ
  rounds_in = get_or o.answer.values 0 0

  abbrev pub length_in : ℕ
  length_in = get_or o.answer.values 1 0

  abbrev pub verdict_in : ℕ
  verdict_in = get_or o.answer.values 2 0

  abbrev pub log_in : List ℕ
  log_in = take length_in o.log

module _ (request : List ℕ) (lent : Lent) where
  abbrev pub rounds_told : ℕ
  rounds_told = rounds_in (outcome request lent)

  abbrev pub length_told : ℕ
  length_told = length_in (outcome request lent)

  abbrev pub verdict_told : ℕ
  verdict_told = verdict_in (outcome request lent)

  abbrev pub log_told : List ℕ
  log_told = log_in (outcome request lent)

-- ---- demand 1: runs and refusals

-- What lies beyond the needed parts is as it was lent.
pub record Beyond (o : Outcome) (request : List ℕ) (lent : Lent) : Type 0 where
  pub cells : drop (cells_of (header_in request)) o.cells ≡ drop (cells_of (header_in request)) lent.cells
  pub log : drop (log_length_of (header_in request)) o.log ≡ drop (log_length_of (header_in request)) lent.log
  pub results : (k : Kind)
      → drop (results_of (header_in request) k).count (o.results k)
      ≡ drop (results_of (header_in request) k).count (lent.results k)

pub record Demand1By (o : Outcome) (request : List ℕ) (lent : Lent) : Type 0 where
  -- Every request within the limits is run to its end, and no other.
  pub runs : RanOn request lent ↔ WithinLimits request (lengths_of lent)
  -- Every other gets its number and, where there is one, its place, and changes no lent buffer: it is refused by r.
  pub refuses : (r : Refusal) → refusal_of request lent ≡ some r
      → o ≡ record { answer = refused r; cells = lent.cells; log = lent.log; results = lent.results }
  -- By a number alone exactly where that is the number of the first public limit that it breaks; or where it keeps those and every word's, and it is
  -- the number of the first limit broken after them (method 5's destination).
  pub refuses_plain : (number : ℕ)
      → (o ≡ refused_by (plain number) lent)
      ↔ (FirstBroken (public_limits request (lengths_of lent)) number ⊎ BrokenLast request (lengths_of lent) number)
  -- By a number and a place exactly where it keeps those, the word there is the first that breaks a limit, and the number is that of the first
  -- limit that this word breaks.
  pub refuses_word : (number place : ℕ)
      → (o ≡ refused_by (placed number place) lent) ↔ BrokenAt request (lengths_of lent) place number
  -- There is nothing else: it keeps every limit, or breaks one that is public, or one of a word, or one after them.
  pub settled : WithinLimits request (lengths_of lent)
      ⊎ ((number : ℕ) × FirstBroken (public_limits request (lengths_of lent)) number)
      ⊎ ((place : ℕ) × (number : ℕ) × BrokenAt request (lengths_of lent) place number)
      ⊎ ((number : ℕ) × BrokenLast request (lengths_of lent) number)
  -- A run is told by 0 or, with verdict 1, by 12, with rounds, log length and verdict.
  pub tells : RanOn request lent
      → (o.answer ≡ record { number = 0; place = none; values = rounds_in o ∷ length_in o ∷ 0 ∷ [] })
      ⊎ (o.answer ≡ record { number = 12; place = none; values = rounds_in o ∷ length_in o ∷ 1 ∷ [] })
  -- A negative cycle leaves cells and log, and no results.
  pub no_results : RanOn request lent → verdict_in o ≡ 1 → (k : Kind) → o.results k ≡ lent.results k
  pub beyond : RanOn request lent → Beyond o request lent

-- .. of what the run answers and leaves.
abbrev pub Demand1 : (request : List ℕ) → Lent → Type 0
Demand1 request lent = Demand1By (outcome request lent) request lent

-- ---- demand 2: least walks

-- Number i of the results of a kind, of any outcome and of the run's.
abbrev pub result_in : Outcome → Kind → (i : ℕ) → ℤ
result_in o k i = get_or (o.results k) i (pos 0)

abbrev pub result_of : (request : List ℕ) → Lent → Kind → (i : ℕ) → ℤ
result_of request lent = result_in (outcome request lent)

-- Method 4 has every vertex as a source, with a row of distances for each, and gives no parents; the others have one source, the header's.
pub record Demand2By (o : Outcome) (request : List ℕ) (lent : Lent) : Type 0 where
  pub cycle : RanOn request lent → (verdict_in o ≡ 1) ↔ CycleFrom (network_in request) (sources_of (header_in request))
  pub no_cycle : RanOn request lent → (verdict_in o ≡ 0) ↔ ¬ CycleFrom (network_in request) (sources_of (header_in request))
  -- The distances given are a row for each source: least totals over all walks from it, FAR exactly where none leads.
  pub rows : RanOn request lent
      → (results_of (header_in request) distances).count ≡ length (sources_of (header_in request)) * (header_in request).vertices
  pub least_totals : RanOn request lent → verdict_in o ≡ 0 → (r : ℕ) → r < length (sources_of (header_in request))
      → Distances (network_in request) far (header_in request).vertices (get_or (sources_of (header_in request)) r 0)
      (λ v. result_in o distances (r * (header_in request).vertices + v))
  -- The parents, where a method gives them: last steps of least walks from the header's source, that lead back to it.
  pub parent_marks : RanOn request lent → verdict_in o ≡ 0 → (results_of (header_in request) parents).count ≢ 0
      → Parents (network_in request) (naming_in request) far (header_in request).vertices (header_in request).source
      (result_in o distances) (result_in o parents)
  -- What the method fixes of them besides: in method 3 they are those of synchronous passes, each reading the distances of the pass before, the
  -- least offer to each vertex, by the lowest edge among equal ones, taken on a strict gain only. In method 5 the route is the parents followed back
  -- from the destination: for a reached one edges that, the last first, lead to it from the source with its distance as total, and then -1; for the
  -- source and an unreached one -1 alone.
  pub besides : RanOn request lent → verdict_in o ≡ 0 → besides_of (header_in request) (words_in request) (result_in o)

-- .. of what the run answers and leaves.
abbrev pub Demand2 : (request : List ℕ) → Lent → Type 0
Demand2 request lent = Demand2By (outcome request lent) request lent

-- Of a method that gives parents, which has one source, in fewer words: all but method 4.
pub record OneSource (request : List ℕ) (lent : Lent) : Type 0 where
  pub cycle : (verdict_told request lent ≡ 1) ↔ NegativeCycle (network_in request) (header_in request).source
  pub no_cycle : (verdict_told request lent ≡ 0) ↔ ¬ NegativeCycle (network_in request) (header_in request).source
  pub shortest : verdict_told request lent ≡ 0
      → Shortest (network_in request) (naming_in request) far (header_in request).vertices (header_in request).source
      (result_of request lent distances) (result_of request lent parents)

-- Of method 4, in fewer words: one verdict for the whole table, and each of its rows with that row's vertex as source.
pub record EverySource (request : List ℕ) (lent : Lent) : Type 0 where
  pub cycle : (verdict_told request lent ≡ 1) ↔ Anywhere (network_in request) (header_in request).vertices
  pub no_cycle : (verdict_told request lent ≡ 0) ↔ ¬ Anywhere (network_in request) (header_in request).vertices
  pub distances : verdict_told request lent ≡ 0 → (i : ℕ) → i < (header_in request).vertices
      → Distances (network_in request) far (header_in request).vertices i
      (λ j. result_of request lent distances (i * (header_in request).vertices + j))

-- ---- demand 3: what the log tells

-- What is public of two runs is the same: method, vertices, the header's edges, source and, in a method with a verdict, the verdict.
pub record SamePublic (request : List ℕ) (lent : Lent) (request' : List ℕ) (lent' : Lent) : Type 0 where
  pub method : (header_in request).method ≡ (header_in request').method
  pub vertices : (header_in request).vertices ≡ (header_in request').vertices
  pub edges : (header_in request).edges ≡ (header_in request').edges
  pub source : (header_in request).source ≡ (header_in request').source
  pub verdict : verdict_cell (header_in request) ≢ none → verdict_told request lent ≡ verdict_told request' lent'

-- (a) For any two requests that ran, whatever their private words and lent buffers: the logs are equal exactly when that is the same.
abbrev pub Demand3a : Type 0
Demand3a = (request request' : List ℕ) (lent lent' : Lent) → RanOn request lent → RanOn request' lent'
    → (log_told request lent ≡ log_told request' lent') ↔ SamePublic request lent request' lent'

pub record Demand3By (o : Outcome) (request : List ℕ) (lent : Lent) : Type 0 where
  -- (b) The log alone, carried out from the starting cells, leaves what the run left, every lent cell; the rounds are the log's charge, the greatest
  -- depth of its words, the published ones passed over (document 02, ask 4).
  pub carried_out : RanOn request lent → replay (log_in o) (start_of request lent) ≡ some o.cells
  pub charged : RanOn request lent → rounds_in o ≡ charge_of (log_in o)
  -- The word after each OPEN in it is the opened cell as it then stood.
  pub as_they_stood : RanOn request lent → AsTheyStood (log_in o) (start_of request lent)
  -- (c) The log without its published words is the plan of the header, whichever the verdict. With them it is that plan and the verdict, and
  -- its first word is the request's own.
  pub planned : RanOn request lent → without_published (log_in o) ≡ plan_of (header_in request)
  pub verdict_last : RanOn request lent
      → log_in o ≡ plan_of (header_in request) ++ published (verdict_cell (header_in request)) (verdict_in o)
  pub own_header : RanOn request lent → get_or request 0 0 < 2 ^ 64 → get_or (log_in o) 0 0 ≡ get_or request 0 0
  -- The length and the rounds told are the documents' figures for the header, and the log has that many words.
  pub length_figure : RanOn request lent → length_in o ≡ log_length_of (header_in request)
  pub length_whole : RanOn request lent → length (log_in o) ≡ length_in o
  pub rounds_figure : RanOn request lent → rounds_in o ≡ rounds_of_plan (header_in request)
  -- (d) Each needed cell starts with one field of a word or 0, as the header says; the others as lent. Results are copies of cells left.
  pub laid_cells : RanOn request lent → (k : ℕ) → k < cells_of (header_in request)
      → cell_at (start_of request lent) k ≡ laid (words_in request) (source_of (header_in request) k)
  pub start_long : RanOn request lent → length (start_of request lent) ≡ length lent.cells
  pub lent_cells : RanOn request lent → (k : ℕ) → cells_of (header_in request) ≤ k
      → cell_at (start_of request lent) k ≡ cell_at lent.cells k
  pub copied_results : RanOn request lent → verdict_in o ≡ 0 → (k : Kind) (i : ℕ) → i < (results_of (header_in request) k).count
      → result_in o k i ≡ cell_at o.cells ((results_of (header_in request) k).first + i)
  -- (e) Every ADD that is carried out gives the exact sum.
  pub exact : RanOn request lent → Exact (instructions_of (header_in request)) (start_of request lent)
  -- It lies where `sum_bound` says, whatever the verdict: every total that is formed from a reached vertex is below FAR (document 02, ask 7), and in
  -- method 4 no sum passes 64 bits (ask 8).
  pub bounded : RanOn request lent → Summed (sum_bound (header_in request)) (instructions_of (header_in request)) (start_of request lent)

-- .. of what the run answers and leaves.
abbrev pub Demand3 : (request : List ℕ) → Lent → Type 0
Demand3 request lent = Demand3By (outcome request lent) request lent

-- ---- foreign plans: demands 1 and 3 of the runner

-- A foreign plan ran when the runner met no refusal.
abbrev pub PlanRanOn : (plan : List ℕ) (cells : List ℤ) (log : List ℕ) → Type 0
PlanRanOn plan cells log = runner_refusal plan (length cells) (length log) ≡ none

pub record DemandPlanBy (o : PlanOutcome) (plan : List ℕ) (cells : List ℤ) (log : List ℕ) : Type 0 where
  -- Every plan within the limits is run to its end, and no other.
  pub runs : PlanRanOn plan cells log ↔ PlanWithin plan (length cells) (length log)
  -- Every other gets its number and, where there is one, its place, and changes no lent buffer.
  pub refuses : (r : Refusal) → runner_refusal plan (length cells) (length log) ≡ some r
      → o ≡ record { answer = refused r; cells = cells; log = log }
  -- By 9 exactly at its first word that is not allowed, by 7 exactly where every word is allowed and the log is too short; there is nothing else.
  pub refuses_word : (place : ℕ)
      → (o ≡ record { answer = refused (placed 9 place); cells = cells; log = log })
      ↔ NotAllowedAt plan (length cells) place
  pub refuses_log : (o ≡ record { answer = refused (plain 7); cells = cells; log = log })
      ↔ LogShort plan (length cells) (length log)
  pub settled : PlanWithin plan (length cells) (length log)
      ⊎ ((place : ℕ) × NotAllowedAt plan (length cells) place)
      ⊎ LogShort plan (length cells) (length log)
  -- A run is told by 0, with rounds and log length: each word, and the published cell after each OPEN.
  pub tells : PlanRanOn plan cells log
      → o.answer ≡ record { number = 0; place = none; values = plan_rounds_in o ∷ plan_length_in o ∷ [] }
  pub length_figure : PlanRanOn plan cells log → plan_length_in o ≡ log_size plan
  -- What lies beyond the log, and each cell that no word of the plan writes, is as it was lent.
  pub log_beyond : PlanRanOn plan cells log → drop (log_size plan) o.log ≡ drop (log_size plan) log
  pub cells_long : PlanRanOn plan cells log → length o.cells ≡ length cells
  pub cells_spared : PlanRanOn plan cells log → (k : ℕ) → All (Spares k) (drop 1 plan)
      → cell_at o.cells k ≡ cell_at cells k
  -- The log alone, carried out from the lent cells, leaves what the run left; the rounds are its charge; without its published words it is the plan.
  pub carried_out : PlanRanOn plan cells log → replay (plan_log_in o) cells ≡ some o.cells
  pub as_they_stood : PlanRanOn plan cells log → AsTheyStood (plan_log_in o) cells
  pub length_whole : PlanRanOn plan cells log → length (plan_log_in o) ≡ plan_length_in o
  pub charged : PlanRanOn plan cells log → plan_rounds_in o ≡ charge_of (plan_log_in o)
  pub planned : PlanRanOn plan cells log → without_published (plan_log_in o) ≡ plan

-- .. of what the runner answers and leaves.
abbrev pub DemandPlan : (plan : List ℕ) (cells : List ℤ) (log : List ℕ) → Type 0
DemandPlan plan cells log = DemandPlanBy (plan_outcome plan cells log) plan cells log
