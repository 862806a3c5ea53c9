-- The theorems: the demands of specs/Demands, for every request, foreign plan and lent buffer.
-- Rests on everything below.
use mathlib.Core.Path.{◌≡◌, refl, sym, ◌∙◌}
use mathlib.Core.Logic.Iff
use mathlib.Core.Logic.{◌⊎◌, inl, inr, ◌≢◌}
use mathlib.Core.List.{List, [], ◌∷◌}
use mathlib.Core.Option.{none}
use Prim.Native.Nat.{ℕ, ◌+◌, ◌*◌}
use native.Mathlib.Omega.{arith}
use lib.Arith.{digits_lt}
use lib.IntN.{ℤ}
use lib.ListN.{length, get_or}
use Rattle.answers.specs.Refusal.{plain, placed}
use Rattle.plans.specs.Limits.{far}
use Rattle.plans.specs.Plan.{Kind, distances, parents, route, results_of}
use Rattle.plans.proofs.Headers.{source_below}
use Rattle.runner.proofs.PlanWithin.{within_plan}
use Rattle.runner.proofs.Refused.{nine_exactly, seven_exactly, settled_plan}
use Rattle.runner.proofs.Foreign.{refused_plan, told_plan, told_as_stood, length_whole as length_whole_plan, length_told_is, log_beyond, cells_long}
use Rattle.runner.proofs.Foreign.{cells_spared, replayed_plan, charge_plan, words_plan}
use Rattle.limits.specs.WithinLimits.{header_in, words_in}
use Rattle.limits.proofs.WithinLimits.{within}
use Rattle.limits.proofs.Refused.{plain_refused, word_refused, settled}
use Rattle.limits.specs.Word.{destination_in}
use Rattle.graph.specs.Jacobi.{Synchronous}
use Rattle.graph.specs.Route.{RouteTo}
use Rattle.graph.proofs.Parents.{distances_carried, parents_carried}
use Rattle.demands.specs.Run.{Lent, outcome}
use Rattle.demands.specs.Network.{edge_of, network_of, naming_of, sources_of}
use Rattle.demands.specs.Besides.{besides_of}
use Rattle.demands.specs.Demands.{RanOn, verdict_told, result_of, Demand1, Demand2, OneSource, EverySource, Demand3a, Demand3, DemandPlan}
use Rattle.demands.proofs.Intake.{laid_cells, lent_cells}
use Rattle.demands.proofs.Ran.{allowed, leaves, by_verdict, cells_are, verdict_is, log_published, length_figure, length_whole}
use Rattle.demands.proofs.Sources.{only_source, first_row, single, every, vertex_at, vertices_long, any_source}
use Rattle.demands.proofs.Left.{besides_carried}
use Rattle.demands.proofs.Copies.{result_copied}
use Rattle.demands.proofs.Beyond.{beyond}
use Rattle.demands.proofs.Refused.{refused_exactly}
use Rattle.demands.proofs.Told.{carried_out, charged, as_they_stood, start_long, planned, own_header, rounds_figure, same_logs}

-- Demand 1: runs and refusals.
pub demand1 : (request : List ℕ) (lent : Lent) → Demand1 request lent
unfolding outcome
demand1 request lent =
    record {
      runs = within request _;
      refuses = λ r e. rw e;
      refuses_plain = λ k. Iff.trans (refused_exactly request lent (plain k) (inl refl)) (plain_refused request _ k);
      refuses_word = λ k place. Iff.trans (refused_exactly request lent (placed k place) (inr refl)) (word_refused request _ k place);
      settled = settled request _;
      tells = λ ran.
          by_verdict request lent ran
          (λ o.
          (o.answer ≡ record { number = 0; place = none; values = get_or o.answer.values 0 0 ∷ get_or o.answer.values 1 0 ∷ 0 ∷ [] })
          ⊎ (o.answer ≡ record { number = 12; place = none; values = get_or o.answer.values 0 0 ∷ get_or o.answer.values 1 0 ∷ 1 ∷ [] }))
          (λ e. inl refl) (λ e. inr refl);
      no_results = λ ran.
          by_verdict request lent ran
          (λ o. get_or o.answer.values 2 0 ≡ 1 → (k : Kind) → o.results k ≡ lent.results k)
          (λ e t. absurd (omega arith)) (λ e t k. refl);
      beyond = beyond request lent;
    }

-- Demand 2: least walks.
pub demand2 : (request : List ℕ) (lent : Lent) → Demand2 request lent
demand2 request lent =
    let h = header_in request in
    let ws = words_in request in
    record {
      cycle = λ ran. rw (verdict_is request lent ran) (leaves request lent ran).cycle;
      no_cycle = λ ran. rw (verdict_is request lent ran) (leaves request lent ran).no_cycle;
      rows = λ ran. (leaves request lent ran).rows;
      least_totals = λ ran t r l.
          let left = leaves request lent ran in
          distances_carried (network_of h ws) far h.vertices (get_or (sources_of h) r 0) _ _
          (λ v below.
          result_copied request lent ran t distances (r * h.vertices + v)
          (rw left.rows (digits_lt {q = r} {m = length (sources_of h)} {r = v} {c = h.vertices} l below)))
          (left.least_totals (sym (verdict_is request lent ran) ∙ t) r l);
      parent_marks = λ ran t some.
          let left = leaves request lent ran in
          let (ds, ps) = left.parents_row some in
          parents_carried (network_of h ws) far h.vertices h.source _ _
          (λ v l. result_copied request lent ran t distances v (omega arith)) (naming_of h ws) _ _ left.below
          (source_below h (allowed request lent ran)) (λ v l. result_copied request lent ran t parents v (omega arith))
          (left.parent_marks (sym (verdict_is request lent ran) ∙ t) some);
      besides = λ ran t.
          besides_carried h (allowed request lent ran) ws _ _ (result_copied request lent ran t)
          ((leaves request lent ran).besides (sym (verdict_is request lent ran) ∙ t));
    }

-- In fewer words, where parents are given.
pub one_source : (request : List ℕ) (lent : Lent) → RanOn request lent → (results_of (header_in request) parents).count ≢ 0
    → OneSource request lent
one_source request lent ran given =
    let h = header_in request in
    let net = network_of h (words_in request) in
    let d = demand2 request lent in
    let sources = single h (allowed request lent ran) given in
    record {
      cycle = Iff.trans (rw sources at (d.cycle ran)) (Iff.symm (only_source net h.source));
      no_cycle = Iff.trans (rw sources at (d.no_cycle ran)) (Iff.symm (Iff.not (only_source net h.source)));
      shortest = λ t.
          record {
            distances = first_row net far h.source h.vertices (result_of request lent distances) (rw sources at (d.least_totals ran t));
            parents = d.parent_marks ran t given;
          };
    }

-- .. and of method 4, without the tables.
pub every_source : (request : List ℕ) (lent : Lent) → RanOn request lent → (header_in request).method ≡ 4 → EverySource request lent
every_source request lent ran four =
    let sources = every (header_in request) four in
    let n = (header_in request).vertices in
    let net = network_of (header_in request) (words_in request) in
    let d = demand2 request lent in
    record {
      cycle = Iff.trans (rw sources at (d.cycle ran)) (Iff.symm (any_source net n));
      no_cycle = Iff.trans (rw sources at (d.no_cycle ran)) (Iff.symm (Iff.not (any_source net n)));
      distances = λ t i l. rw (vertex_at n i l) at ((rw sources at (d.least_totals ran t)) i (omega (arith, vertices_long n)));
    }

-- Method 3's own rule, without the table: its distances and parents are those of synchronous passes; no others are (graph's `one_result`).
pub synchronous_passes : (request : List ℕ) (lent : Lent) → RanOn request lent → (header_in request).method ≡ 3 → verdict_told request lent ≡ 0
    → Synchronous (edge_of (words_in request)) (header_in request).edges far (header_in request).vertices (header_in request).source
    (result_of request lent distances) (result_of request lent parents)
unfolding besides_of
synchronous_passes request lent ran three t = rw three at ((demand2 request lent).besides ran t)

-- Method 5's route, without the table: the parents given, followed back from the destination; no other row does (graph's `one_route`).
pub route_shown : (request : List ℕ) (lent : Lent) → RanOn request lent → (header_in request).method ≡ 5 → verdict_told request lent ≡ 0
    → RouteTo (edge_of (words_in request)) (header_in request).edges far (header_in request).vertices (header_in request).source
    (result_of request lent distances) (result_of request lent parents) (destination_in (header_in request) (words_in request))
    (result_of request lent route)
unfolding besides_of
route_shown request lent ran five t = rw five at ((demand2 request lent).besides ran t)

-- Demand 3: what the log tells, of two runs and of one.
pub demand3a : Demand3a
demand3a = same_logs

pub demand3 : (request : List ℕ) (lent : Lent) → Demand3 request lent
demand3 request lent =
    record {
      carried_out = carried_out request lent;
      charged = charged request lent;
      as_they_stood = as_they_stood request lent;
      planned = planned request lent;
      verdict_last = log_published request lent;
      own_header = own_header request lent;
      length_figure = length_figure request lent;
      length_whole = length_whole request lent;
      rounds_figure = rounds_figure request lent;
      laid_cells = λ ran. laid_cells request lent;
      start_long = start_long request lent;
      lent_cells = λ ran. lent_cells request lent;
      copied_results = λ ran t k i l. rw (cells_are request lent ran) (result_copied request lent ran t k i l);
      exact = λ ran. (leaves request lent ran).exact;
      bounded = λ ran. (leaves request lent ran).bounded;
    }

-- Foreign plans: demands 1 and 3 of the runner.
pub demand_plan : (plan : List ℕ) (cells : List ℤ) (log : List ℕ) → DemandPlan plan cells log
demand_plan plan cells log =
    record {
      runs = within_plan plan (length cells) (length log);
      refuses = refused_plan plan cells log;
      refuses_word = nine_exactly plan cells log;
      refuses_log = seven_exactly plan cells log;
      settled = settled_plan plan (length cells) (length log);
      tells = told_plan plan cells log;
      length_figure = length_told_is plan cells log;
      log_beyond = log_beyond plan cells log;
      cells_long = cells_long plan cells log;
      cells_spared = cells_spared plan cells log;
      carried_out = replayed_plan plan cells log;
      as_they_stood = told_as_stood plan cells log;
      length_whole = length_whole_plan plan cells log;
      charged = charge_plan plan cells log;
      planned = words_plan plan cells log;
    }
