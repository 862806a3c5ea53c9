-- The table of specs/Offered: where a demand would have to hold of a wrong outcome, computing the definitions gives two numbers that are not
-- the same, or a walk that costs less. Rests on demands' theorems.
use mathlib.Core.Path.{◌≡◌, refl, sym, ap, ◌∙◌, subst}
use mathlib.Core.Logic.{◌≢◌, ◌⊎◌, inl, inr}
use mathlib.Core.List.{List, [], ◌∷◌}
use mathlib.Core.Option.{Option, none, some}
use Prim.Native.Nat.{ℕ, zero, suc, ◌+◌, ◌*◌, ◌<◌}
use native.Mathlib.Omega.{arith}
use lib.IntN.{ℤ, pos, negsuc, nat_abs, pos-ne-negsuc, ◌+ℤ◌}
use lib.ListN.{length, get_or}
use lib.Signed.{◌≤ℤ◌}
use Rattle.fields.specs.Fields.{signed_of, bits_of}
use Rattle.answers.specs.Told.{Told}
use Rattle.machine.specs.Effect.{bit, wrap_add, both, pick, perform}
use Rattle.machine.specs.Word.{packed, packed_set, decode_at, zeros_kept, present, admissible_at}
use Rattle.machine.specs.Log.{carry, logged, cells_after, log_from, log_of, replay_from, replay, ToldFrom, without_published_from, without_published, sum_of}
use Rattle.machine.specs.Depth.{greatest_from, decode_all, depth_of, charge_of}
use Rattle.plans.specs.Limits.{far}
use Rattle.plans.specs.Blocks.{flat}
use Rattle.plans.specs.Outline.{instructions}
use Rattle.plans.specs.Method1 as Method1
use Rattle.plans.specs.Method2 as Method2
use Rattle.plans.specs.Method3 as Method3
use Rattle.plans.specs.Method4 as Method4
use Rattle.plans.specs.Method5 as Method5
use Rattle.plans.specs.Plan.{instructions_of, plan_of, word_count_of, cells_of, distances, parents, results_of, length_of, verdict_cell}
use Rattle.headers.specs.Refusal.{header_refusal}
use Rattle.runner.specs.Runner.{first_bad, log_size, runner_refusal, plan_outcome}
use Rattle.limits.specs.Word.{from_field, weight_of}
use Rattle.limits.specs.WithinLimits.{words_in}
use Rattle.limits.specs.Refusal.{log_length_of, sizes_refusal, in_range, edge_refusal, sorted_refusal, entry_refusal, word_refusal, words_refusal, last_refusal}
use Rattle.limits.specs.Refusal.{request_refusal}
use Rattle.intake.specs.Intake.{strips_of, source_of, laid, copied, starting_cells}
use Rattle.graph.specs.Walk.{Edge, Network, Chain, total}
use Rattle.graph.specs.Shortest.{Distances}
use Rattle.graph.specs.BellmanFord.{network}
use Rattle.graph.proofs.Synchronous.{one_result}
use Rattle.demands.specs.Run.{verdict_of, outcome}
use Rattle.demands.specs.Network.{edge_of, Entered, network_of, naming_of, sources_of}
use Rattle.demands.specs.Besides.{besides_of}
use Rattle.demands.specs.Demands.{RanOn, result_in, PlanRanOn}
use Rattle.demands.specs.Plain.{steps_back, lane_before, LanesAddUp, TableAddsUp}
use Rattle.demands.proofs.Sources.{first_row}
use Rattle.demands.proofs.Ran.{leaves}
use Rattle.demands.proofs.Theorems.{demand2, synchronous_passes}
use Rattle.demands.proofs.Plain.{lanes, tables}
use Rattle.facts.specs.Offered.{printed, for_printed, more, circle, for_circle, chained, for_chained, parallel, for_parallel, level, for_level}
use Rattle.facts.specs.Offered.{table, for_table, tied, for_tied, every_yard, for_every_yard, circle_apart, for_circle_apart, routed, to_the_source}
use Rattle.facts.specs.Offered.{for_routed, doubling, one_cell, four_words, round_and_round, Offered}

-- ---- the requests ran

record AllRan : Type 0 where
  of_printed : RanOn printed for_printed
  with_more : RanOn printed more
  of_circle : RanOn circle for_circle
  of_chained : RanOn chained for_chained
  of_parallel : RanOn parallel for_parallel
  of_level : RanOn level for_level
  of_table : RanOn table for_table
  of_tied : RanOn tied for_tied
  of_every_yard : RanOn every_yard for_every_yard
  of_circle_apart : RanOn circle_apart for_circle_apart
  of_routed : RanOn routed for_routed
  of_to_the_source : RanOn to_the_source for_routed
  of_doubling : PlanRanOn doubling one_cell four_words

ran : AllRan
unfolding signed_of decode_at zeros_kept present admissible_at sum_of word_count_of cells_of results_of length_of header_refusal weight_of log_length_of verdict_cell sizes_refusal in_range edge_refusal sorted_refusal entry_refusal word_refusal words_refusal last_refusal request_refusal first_bad log_size runner_refusal
ran =
    record {
      of_printed = refl;
      with_more = refl;
      of_circle = refl;
      of_chained = refl;
      of_parallel = refl;
      of_level = refl;
      of_table = refl;
      of_tied = refl;
      of_every_yard = refl;
      of_circle_apart = refl;
      of_routed = refl;
      of_to_the_source = refl;
      of_doubling = refl;
    }

-- ---- tools

-- Cell k of what carrying out gives; the first of some numbers.
abbrev cell_in : ℕ → Option (List ℤ) → ℤ
cell_in k none = pos 0
cell_in k (some cells) = get_or cells k (pos 0)

abbrev first : List ℤ → ℤ
first xs = get_or xs 0 (pos 0)

-- Two numbers that are not the same.
differ : {k l : ℕ} → k ≢ l → pos k ≢ pos l
differ n e = n (ap nat_abs e)

near : {x : ℕ} → x < 1000 → pos x ≢ far
near l e = omega (arith, l, ap nat_abs e)

module _ (net : Network) (n s : ℕ) (dist : ℕ → ℤ) (d : Distances net far n s dist) where
  -- A distance that a walk undercuts.
  undercut : (v : ℕ) → v < n → dist v ≢ far → (es : List Edge) → Chain net s es v → ¬ (dist v ≤ℤ total es) → ⊥
  undercut v l reached es c over = over ((d.reached v l reached).1.least es c)

  -- A mark where a walk leads.
  led : (v : ℕ) → v < n → dist v ≡ far → (es : List Edge) → Chain net s es v → ⊥
  led v l e es c = (d.unreached v l).0 e (es, c)

abbrev lane : (request : List ℕ) (i : ℕ) → Edge
lane request i = edge_of (words_in request) i

-- The lane, or yard, that a parent names, where sums are plain.
module _ (ws : List ℕ) (n s : ℕ) (dist parent : ℕ → ℤ) (v : ℕ) (l : v < n) (reached : dist v ≢ far) (ne : v ≢ s) (k : ℕ)
    (marked : parent v ≡ pos k) where
  lane_made : (m : ℕ) → LanesAddUp ws n m s dist parent → dist (from_field (get_or ws k 0)) +ℤ weight_of (get_or ws k 0) ≡ dist v
  lane_made m h =
      let t = h.made v l reached ne in
      subst (λ (i : ℕ). dist (from_field (get_or ws i 0)) +ℤ weight_of (get_or ws i 0) ≡ dist v) (ap nat_abs (sym t.2 ∙ marked)) t.5

  entry_there : TableAddsUp ws n s dist parent → weight_of (get_or ws (k * n + v) 0) ≢ negsuc 0
  entry_there h =
      let t = h.made v l reached ne in
      subst (λ (u : ℕ). weight_of (get_or ws (u * n + v) 0) ≢ negsuc 0) (ap nat_abs (sym t.2 ∙ marked)) t.3

-- Steps that lead from 1 to 2 and from 2 to 1 lead from 1 to no other.
around : (before : ℕ → ℕ) → before 1 ≡ 2 → before 2 ≡ 1 → (k : ℕ) → (steps_back before 1 k ≡ 1) ⊎ (steps_back before 1 k ≡ 2)
around before forth back zero = inl refl
around before forth back (suc k) =
    elim (around before forth back k) [ inl e ↦ inr (ap before e ∙ forth) | inr e ↦ inl (ap before e ∙ back) ]

never_home : (before : ℕ → ℕ) → before 1 ≡ 2 → before 2 ≡ 1 → (k : ℕ) → steps_back before 1 k ≢ 0
never_home before forth back k home =
    elim (around before forth back k) [ inl e ↦ omega (arith, sym e ∙ home) | inr e ↦ omega (arith, sym e ∙ home) ]

-- ---- the table

pub offered : Offered
unfolding signed_of bits_of bit wrap_add both pick perform packed packed_set decode_at zeros_kept present admissible_at carry logged cells_after log_from log_of replay_from replay ToldFrom without_published_from without_published greatest_from decode_all depth_of charge_of flat instructions Method1.plan Method2.plan Method3.plan Method4.plan Method5.plan instructions_of plan_of word_count_of cells_of results_of length_of verdict_cell header_refusal weight_of log_length_of sizes_refusal in_range edge_refusal sorted_refusal entry_refusal word_refusal words_refusal last_refusal request_refusal strips_of source_of laid copied starting_cells verdict_of outcome network_of naming_of sources_of besides_of sum_of first_bad log_size runner_refusal plan_outcome
offered =
    record {
      copies_the_plan_fails = (
        λ d.
            undercut _ 2 0 _ (d.least_totals ran.of_printed refl 0 (omega arith)) 1 (omega arith) (near (omega arith))
            (lane printed 0 ∷ []) ((0, omega arith, refl), refl, refl) (λ q. q.le),
        λ d. pos-ne-negsuc 0 4 (sym (ap (cell_in 4) (d.carried_out ran.of_printed))),
      );
      first_pass_only_fails = (
        λ d.
            led _ 3 0 _ (d.least_totals ran.of_chained refl 0 (omega arith)) 2 (omega arith) refl
            (lane chained 1 ∷ lane chained 0 ∷ []) ((1, omega arith, refl), refl, ((0, omega arith, refl), refl, refl)),
        λ d. near {x = 2} (omega arith) (ap (cell_in 8) (d.carried_out ran.of_chained)),
      );
      before_its_first_word_fails = (
        λ d. ((demand2 printed for_printed).no_cycle ran.of_printed).0 refl ((d.cycle ran.of_printed).0 refl),
        λ d. let e : ◌≡◌ {A = ℕ} 1 17 = ap length (d.planned ran.of_circle) in omega (arith, e),
      );
      fixed_distances_fails = (
        λ d.
            undercut _ 2 0 _ (d.least_totals ran.of_printed refl 0 (omega arith)) 1 (omega arith) (near (omega arith))
            (lane printed 0 ∷ []) ((0, omega arith, refl), refl, refl) (λ q. q.le),
        λ d. pos-ne-negsuc 4 4 (d.copied_results ran.of_printed refl distances 1 (omega arith)),
      );
      refuses_everything_fails = λ d.
          elim (d.tells ran.of_printed) [
            | inl e ↦ omega (arith, ap (λ (t : Told). t.number) e)
            | inr e ↦ omega (arith, ap (λ (t : Told). t.number) e)
          ];
      at_intake_fails = λ d. differ {k = 1} {l = 0} (λ e. omega (arith, e)) (ap (cell_in 8) (d.carried_out ran.of_printed));
      beside_the_cells_fails = λ d. pos-ne-negsuc 0 4 (sym (d.copied_results ran.of_printed refl distances 1 (omega arith)));
      invented_rounds_fails = λ d. let e : ◌≡◌ {A = ℕ} 30 31 = d.charged ran.of_printed in omega (arith, e);
      foreign_right = refl;
      foreign = (
        λ d. differ {k = 14} {l = 7} (λ e. omega (arith, e)) (ap (cell_in 0) (d.carried_out ran.of_doubling)),
        λ d. let e : ◌≡◌ {A = ℕ} 0 1 = d.charged ran.of_doubling in omega (arith, e),
        λ d. let e : ◌≡◌ {A = ℕ} 7 14 = (d.as_they_stood ran.of_doubling).0 in omega (arith, e),
        λ d. omega (arith, ap (λ (t : Told). t.number) (d.tells ran.of_doubling)),
      );
      dearer_lane_fails = λ d.
          let rows = first_row (network (edge_of (words_in parallel)) 2) far 0 2 _ (d.least_totals ran.of_parallel refl) in
          let marks = d.parent_marks ran.of_parallel refl (λ e. omega (arith, e)) in
          let plain =
          lanes (words_in parallel) 2 2 0 _ _ (leaves parallel for_parallel ran.of_parallel).below (omega arith)
          (record { distances = rows; parents = marks }) in
          differ {k = 9} {l = 4} (λ e. omega (arith, e))
          (lane_made (words_in parallel) 2 0 _ _ 1 (omega arith) (near {x = 4} (omega arith)) (λ e. omega (arith, e)) 1 refl 2 plain);
      another_yard_fails = λ d.
          let rows = first_row (Entered 2 (words_in table)) far 0 2 _ (d.least_totals ran.of_table refl) in
          let marks = d.parent_marks ran.of_table refl (λ e. omega (arith, e)) in
          let plain =
          tables (words_in table) 2 0 _ _ (leaves table for_table ran.of_table).below (omega arith)
          (record { distances = rows; parents = marks }) in
          entry_there (words_in table) 2 0 _ _ 1 (omega arith) (near {x = 7} (omega arith)) (λ e. omega (arith, e)) 1 refl plain refl;
      round_and_round_fails = λ d.
          let rows = first_row (network (edge_of (words_in level)) 3) far 0 3 _ (d.least_totals ran.of_level refl) in
          let marks = d.parent_marks ran.of_level refl (λ e. omega (arith, e)) in
          let plain =
          lanes (words_in level) 3 3 0 _ _ (leaves level for_level ran.of_level).below (omega arith)
          (record { distances = rows; parents = marks }) in
          let home = plain.home 1 (omega arith) (near {x = 0} (omega arith)) in
          never_home (λ u. lane_before (words_in level) u (result_in round_and_round parents u)) refl refl home.0 home.1;
      beyond = (
        λ d. differ {k = 1} {l = 0} (λ e. omega (arith, e)) (ap first ((d.beyond ran.with_more).results distances)),
        λ d. let e : ◌≡◌ {A = ℕ} 1 0 = ap (λ (xs : List ℕ). get_or xs 0 0) (d.beyond ran.with_more).log in omega (arith, e),
        λ d. differ {k = 1} {l = 0} (λ e. omega (arith, e)) (ap first (d.beyond ran.with_more).cells),
      );
      circle_with_results_fails = λ d. pos-ne-negsuc 0 0 (sym (ap first (d.no_results ran.of_circle refl distances)));
      stops_early_fails = λ d. let e : ◌≡◌ {A = ℕ} 20 47 = ap length (d.planned ran.of_printed) in omega (arith, e);
      publishes_another_fails = λ d. let e : ◌≡◌ {A = ℕ} 1 0 = (d.as_they_stood ran.of_printed).0 in omega (arith, e);
      later_lane_fails = λ d.
          differ {k = 1} {l = 0} (λ e. omega (arith, e))
          (one_result (edge_of (words_in tied)) 2 far 2 0 (leaves tied for_tied ran.of_tied).below _ _ _ _ (d.besides ran.of_tied refl)
          (synchronous_passes tied for_tied ran.of_tied refl refl) 1 (omega arith)).1;
      by_columns_fails = λ d.
          led _ 2 0 _ (d.least_totals ran.of_every_yard refl 0 (omega arith)) 1 (omega arith) refl
          (lane every_yard 0 ∷ []) ((0, omega arith, refl), refl, refl);
      circle_passed_over_fails = λ d.
          (d.no_cycle ran.of_circle_apart).0 refl (((demand2 circle_apart for_circle_apart).cycle ran.of_circle_apart).0 refl);
      first_first_is = λ d. differ {k = 1} {l = 0} (λ e. omega (arith, e)) ((d.besides ran.of_routed refl).followed 0 (omega arith));
      route_of_nothing_fails = λ d. pos-ne-negsuc 0 0 ((d.besides ran.of_to_the_source refl).nothing (inl refl) 0 (omega arith));
    }
