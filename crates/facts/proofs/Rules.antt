-- The table of specs/Rules: the crates' tables, and the rows about outcomes by computing the definitions. Rests on those tables.
use mathlib.Core.Path.{◌≡◌, refl, ap, fun_ext}
use mathlib.Core.Logic.{◌≢◌}
use native.Mathlib.Omega.{arith}
use lib.IntN.{pos, nat_abs}
use Rattle.answers.proofs.Facts as Answers
use Rattle.fields.specs.Fields.{signed_of, bits_of}
use Rattle.machine.specs.Effect.{bit, wrap_add, both, pick, perform}
use Rattle.machine.specs.Word.{packed, packed_set, decode_at, zeros_kept, present, admissible_at}
use Rattle.machine.specs.Log.{carry, logged, cells_after, log_from, log_of, without_published_from, without_published, sum_of}
use Rattle.machine.specs.Depth.{greatest_from, decode_all, depth_of, charge_of}
use Rattle.machine.proofs.Facts as Machine
use Rattle.plans.specs.Blocks.{flat}
use Rattle.plans.specs.Outline.{instructions}
use Rattle.plans.specs.Method1 as Method1
use Rattle.plans.specs.Method2 as Method2
use Rattle.plans.specs.Method3 as Method3
use Rattle.plans.specs.Method4 as Method4
use Rattle.plans.specs.Method5 as Method5
use Rattle.plans.specs.Plan.{Kind, instructions_of, plan_of, word_count_of, cells_of, results_of, length_of, verdict_cell}
use Rattle.plans.proofs.EachKind.{each_kind}
use Rattle.plans.proofs.Facts as Plans
use Rattle.graph.proofs.Facts as Graph
use Rattle.headers.specs.Refusal.{header_refusal}
use Rattle.headers.proofs.Facts as Headers
use Rattle.planner.proofs.Facts as Planner
use Rattle.runner.specs.Runner.{first_bad, log_size, runner_refusal, plan_outcome}
use Rattle.runner.proofs.Facts as Runner
use Rattle.limits.specs.Word.{weight_of}
use Rattle.limits.specs.Refusal.{log_length_of, sizes_refusal, in_range, edge_refusal, sorted_refusal, entry_refusal, word_refusal, words_refusal, last_refusal, request_refusal}
use Rattle.limits.proofs.Facts as Limits
use Rattle.intake.specs.Intake.{strips_of, source_of, laid, copied, starting_cells}
use Rattle.intake.proofs.Facts as Intake
use Rattle.demands.specs.Run.{Outcome, verdict_of, outcome}
use Rattle.demands.specs.Network.{sources_of}
use Rattle.demands.specs.Sums.{sum_bound}
use Rattle.saved.specs.Saved.{convertible, converted, saved_refusal, conversion_outcome}
use Rattle.saved.proofs.Facts as Saved
use Rattle.comparisons.proofs.Facts as Comparisons
use Rattle.facts.specs.Rules.{Rules}

-- Outcomes are the same where their parts are.
same : (o p : Outcome) → o.answer ≡ p.answer → o.cells ≡ p.cells → o.log ≡ p.log → ((k : Kind) → o.results k ≡ p.results k) → o ≡ p
same o p a c l r = λ i. record { answer = a i; cells = c i; log = l i; results = fun_ext r i }

near : pos 549755813786 ≢ pos 549755813887
near e = omega (arith, ap nat_abs e)

pub rules : Rules
unfolding signed_of bits_of bit wrap_add both pick perform packed packed_set decode_at zeros_kept present admissible_at carry logged cells_after log_from log_of without_published_from without_published sum_of greatest_from decode_all depth_of charge_of flat instructions Method1.plan Method2.plan Method3.plan Method4.plan Method5.plan instructions_of plan_of cells_of results_of length_of header_refusal weight_of word_count_of log_length_of verdict_cell sizes_refusal in_range edge_refusal sorted_refusal entry_refusal word_refusal words_refusal last_refusal request_refusal strips_of source_of laid copied starting_cells first_bad log_size runner_refusal plan_outcome verdict_of outcome sources_of sum_bound convertible converted saved_refusal conversion_outcome
rules =
    record {
      answers = Answers.facts;
      graph = Graph.facts;
      machine = Machine.facts;
      plans = Plans.facts;
      headers = Headers.facts;
      planner = Planner.facts;
      limits = Limits.facts;
      intake = Intake.facts;
      runner = Runner.facts;
      saved = Saved.facts;
      comparisons = Comparisons.facts;
      finer = refl;
      one = (refl, refl, refl, refl, refl);
      two = refl;
      three = refl;
      four = (refl, refl);
      five = (refl, refl);
      six = refl;
      seven = refl;
      eight = (refl, refl, refl, refl);
      nine = refl;
      ten = (refl, refl);
      eleven = refl;
      twelve = (refl, refl, refl);
      thirteen = (refl, refl);
      fourteen = (refl, refl);
      fifteen = (refl, refl);
      sixteen = (refl, refl);
      fault_order = (refl, refl, refl, refl);
      refuses = refl;
      untouched = same _ _ refl refl refl (each_kind _ refl refl refl);
      untouched4 = same _ _ refl refl refl (each_kind _ refl refl refl);
      untouched5 = same _ _ refl refl refl (each_kind _ refl refl refl);
      sums = (
        λ f. (f near).lt,
        λ f. (f near (λ e. omega (arith, ap nat_abs e))).lt,
        λ f. (f near).lt,
        λ f. (f near).lt,
        λ x. record { lt = tt },
        λ x. absurd (x refl),
        λ x w. absurd (w refl),
        (record { le = tt }, record { le = tt }),
        (record { le = tt }, record { le = tt }),
        λ f. f.0.le,
        λ f. f.1.le,
      );
      sources = (refl, refl, refl, refl, refl);
    }
