-- The table of specs/Facts, by computing the definitions. Rests on the definitions alone else.
use mathlib.Core.Path.{refl}
use Rattle.fields.specs.Fields.{signed_of, bits_of}
use Rattle.machine.specs.Effect.{bit, wrap_add, both, pick, perform}
use Rattle.machine.specs.Word.{packed, packed_set, decode_at, zeros_kept, present, admissible_at}
use Rattle.machine.specs.Log.{carry, logged, cells_after, log_from, log_of, without_published_from, without_published, sum_of}
use Rattle.machine.specs.Depth.{greatest_from, decode_all, depth_of, charge_of}
use Rattle.plans.specs.Blocks.{flat}
use Rattle.plans.specs.Outline.{instructions}
use Rattle.plans.specs.Method1 as Method1
use Rattle.plans.specs.Plan.{instructions_of, plan_of, word_count_of, cells_of, results_of, length_of, verdict_cell}
use Rattle.headers.specs.Refusal.{header_refusal}
use Rattle.planner.specs.Written.{plan_refusal}
use Rattle.limits.specs.Word.{weight_of}
use Rattle.limits.specs.Refusal.{log_length_of, sizes_refusal, in_range, edge_refusal, word_refusal, words_refusal, last_refusal, request_refusal}
use Rattle.limits.specs.Sizes.{sizes_told}
use Rattle.runner.specs.Runner.{first_bad, log_size, runner_refusal, plan_outcome}
use Rattle.saved.specs.Saved.{convertible, saved_refusal, conversion_outcome}
use Rattle.intake.specs.Intake.{strips_of, source_of, laid, copied, starting_cells}
use Rattle.demands.specs.Run.{verdict_of, outcome}
use Rattle.exports.specs.Facts.{Facts}

pub facts : Facts
unfolding signed_of bits_of bit wrap_add both pick perform packed packed_set decode_at zeros_kept present admissible_at carry logged cells_after log_from log_of without_published_from without_published sum_of greatest_from decode_all depth_of charge_of flat instructions Method1.plan instructions_of plan_of word_count_of cells_of results_of length_of verdict_cell header_refusal plan_refusal weight_of log_length_of sizes_refusal in_range edge_refusal word_refusal words_refusal last_refusal request_refusal sizes_told first_bad log_size runner_refusal plan_outcome convertible saved_refusal conversion_outcome strips_of source_of laid copied starting_cells verdict_of outcome
facts =
    record {
      runs = (refl, refl);
      run_refusals = (refl, refl, refl);
      plans = (refl, refl, refl);
      written = (refl, refl, refl);
      sizes = (refl, refl, refl);
      conversions = (refl, refl);
    }
