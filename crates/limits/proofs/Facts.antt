-- The table of specs/Facts, by computing the definitions. Rests on the definitions alone else.
use mathlib.Core.Path.{refl}
use Rattle.fields.specs.Fields.{signed_of}
use Rattle.plans.specs.Blocks.{flat}
use Rattle.plans.specs.Plan.{word_count_of, cells_of, results_of, length_of, verdict_cell}
use Rattle.headers.specs.Refusal.{header_refusal}
use Rattle.limits.specs.Word.{weight_of}
use Rattle.limits.specs.Refusal.{log_length_of, sizes_refusal, in_range, edge_refusal, sorted_refusal, entry_refusal, word_refusal, words_refusal, last_refusal, request_refusal}
use Rattle.limits.specs.Sizes.{sizes_told}
use Rattle.limits.specs.Facts.{Facts}

pub facts : Facts
unfolding signed_of flat cells_of results_of length_of header_refusal weight_of word_count_of log_length_of verdict_cell sizes_refusal in_range edge_refusal sorted_refusal entry_refusal word_refusal words_refusal last_refusal request_refusal sizes_told
facts =
    record {
      vertices = (refl, refl, refl, refl, refl, refl, refl, refl, refl);
      spare1 = (refl, refl, refl);
      spare2 = (refl, refl, refl);
      weights1 = (refl, refl, refl, refl, refl, refl);
      weights2 = (refl, refl, refl, refl, refl);
      words = (refl, refl, refl, refl, refl);
      sizes1 = (refl, refl, refl, refl, refl);
      sizes2 = (refl, refl, refl, refl, refl);
      sizes3 = (refl, refl, refl, refl, refl, refl);
      sizes4 = (refl, refl, refl, refl, refl, refl, refl, refl, refl, refl);
      source4 = (refl, refl, refl);
      sizes5 = (refl, refl, refl, refl, refl, refl, refl, refl, refl);
      logs = (refl, refl, refl, refl, refl);
      asked = (refl, refl, refl, refl, refl, refl, refl, refl);
      order = (refl, refl, refl, refl, refl, refl, refl, refl, refl, refl);
      faults = (refl, refl, refl, refl, refl, refl, refl, refl);
      sorted_edge = (refl, refl, refl, refl, refl, refl, refl, refl, refl);
      routed_edge = (refl, refl, refl, refl, refl);
      every_edge = (refl, refl, refl, refl, refl, refl, refl, refl, refl, refl, refl, refl);
      order3 = (refl, refl, refl, refl, refl, refl, refl, refl);
      order_last = (refl, refl, refl, refl);
      destinations = (refl, refl, refl, refl, refl, refl, refl, refl);
      destination_last = (refl, refl, refl, refl, refl, refl, refl);
      entry_faults = refl;
      places = (refl, refl, refl, refl, refl, refl, refl, refl);
    }
