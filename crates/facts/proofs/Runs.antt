-- The tables of specs/Corners, Sorted, Routed, Tabled and Compared, by computing the definitions. Rests on those alone.
use mathlib.Core.Path.{refl}
use Rattle.fields.specs.Fields.{signed_of, bits_of}
use Rattle.machine.specs.Effect.{bit, wrap_add, both, pick, perform}
use Rattle.machine.specs.Word.{packed, packed_set, decode_at, zeros_kept, present, admissible_at}
use Rattle.machine.specs.Log.{carry, logged, cells_after, log_from, log_of, without_published_from, without_published}
use Rattle.machine.specs.Depth.{greatest_from, decode_all, depth_of, charge_of}
use Rattle.plans.specs.Blocks.{flat}
use Rattle.plans.specs.Outline.{instructions}
use Rattle.plans.specs.Method1 as Method1
use Rattle.plans.specs.Method2 as Method2
use Rattle.plans.specs.Method3 as Method3
use Rattle.plans.specs.Method4 as Method4
use Rattle.plans.specs.Method5 as Method5
use Rattle.plans.specs.Plan.{instructions_of, plan_of, word_count_of, cells_of, results_of, length_of, verdict_cell}
use Rattle.headers.specs.Refusal.{header_refusal}
use Rattle.limits.specs.Word.{weight_of}
use Rattle.limits.specs.Refusal.{log_length_of, sizes_refusal, in_range, edge_refusal, sorted_refusal, entry_refusal, word_refusal, words_refusal, last_refusal, request_refusal}
use Rattle.intake.specs.Intake.{strips_of, source_of, laid, copied, starting_cells}
use Rattle.demands.specs.Run.{verdict_of, outcome}
use Rattle.facts.specs.Corners.{Corners}
use Rattle.facts.specs.Sorted.{Sorted}
use Rattle.facts.specs.Routed.{Routed}
use Rattle.facts.specs.Tabled.{Tabled}
use Rattle.facts.specs.Compared.{Compared}

runs : Corners × Sorted × Routed × Tabled × Compared
unfolding signed_of bits_of bit wrap_add both pick perform packed packed_set decode_at zeros_kept present admissible_at carry logged cells_after log_from log_of without_published_from without_published greatest_from decode_all depth_of charge_of flat instructions Method1.plan Method2.plan Method3.plan Method4.plan Method5.plan instructions_of plan_of cells_of results_of length_of header_refusal weight_of word_count_of log_length_of verdict_cell sizes_refusal in_range edge_refusal sorted_refusal entry_refusal word_refusal words_refusal last_refusal request_refusal strips_of source_of laid starting_cells verdict_of copied outcome
runs = (
  record {
    smallest = (refl, refl, refl);
    printed = (refl, refl, refl);
    loops = (refl, refl);
    ties = (refl, refl, refl);
    elsewhere = (refl, refl);
    no_edges = (refl, refl);
    one_vertex = (refl, refl);
    weights = (refl, refl);
    limits = (refl, refl);
    least_constant = refl;
    wrapped = refl;
  },
  record {
    smallest = record { answers = refl; dist = refl; parent = refl };
    printed = record { answers = refl; dist = refl; parent = refl };
    ties = record { answers = refl; dist = refl; parent = refl };
    later = record { answers = refl; dist = refl; parent = refl };
    segments = record { answers = refl; dist = refl; parent = refl };
    synchronous = record { answers = refl; dist = refl; parent = refl };
    in_place = refl;
    elsewhere = record { answers = refl; dist = refl; parent = refl };
    loops = (refl, refl);
  },
  record {
    smallest = record { answers = refl; route = refl };
    printed = record { answers = refl; route = refl };
    two_edges = record { answers = refl; route = refl };
    one_edge = record { answers = refl; route = refl };
    source = record { answers = refl; route = refl };
    unreached = record { answers = refl; route = refl };
    ties = record { answers = refl; route = refl };
    circles = (record { answers = refl; route = refl }, refl, refl);
    others = refl;
  },
  record {
    smallest = record { answers = refl; table = refl; parents = refl };
    printed = record { answers = refl; table = refl; parents = refl };
    parallel = (record { answers = refl; table = refl; parents = refl }, record { answers = refl; table = refl; parents = refl });
    over_the_last = record { answers = refl; table = refl; parents = refl };
    apart = record { answers = refl; table = refl; parents = refl };
    circles = (refl, refl, record { answers = refl; table = refl; parents = refl });
    loops =
        (refl, record { answers = refl; table = refl; parents = refl }, record { answers = refl; table = refl; parents = refl });
  },
  record {
    method_1 = refl;
    method_2 = refl;
    method_3 = refl;
    method_4 = refl;
    method_5 = refl;
    moved_1 = refl;
    moved_2 = refl;
    moved_3 = refl;
    moved_4 = refl;
    moved_5 = refl;
  },
)

pub corners : Corners
corners = runs.0

pub sorted : Sorted
sorted = runs.1

pub routed : Routed
routed = runs.2

pub tabled : Tabled
tabled = runs.3

pub compared : Compared
compared = runs.4
