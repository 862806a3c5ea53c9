-- The table of specs/Facts, by computing the definitions. Rests on the definitions alone else.
use mathlib.Core.Path.{refl}
use Rattle.fields.specs.Fields.{signed_of, bits_of}
use Rattle.machine.specs.Effect.{bit, wrap_add, pick, perform}
use Rattle.machine.specs.Word.{decode_at, zeros_kept, present, admissible_at}
use Rattle.machine.specs.Log.{carry, logged, cells_after, log_from, log_of, without_published_from, without_published, sum_of}
use Rattle.machine.specs.Depth.{greatest_from, decode_all, depth_of, charge_of}
use Rattle.runner.specs.Runner.{first_bad, log_size, runner_refusal, plan_outcome}
use Rattle.runner.specs.Facts.{Facts}

pub facts : Facts
unfolding signed_of bits_of bit wrap_add pick perform decode_at zeros_kept present admissible_at carry logged cells_after log_from log_of without_published_from without_published sum_of greatest_from decode_all depth_of charge_of first_bad log_size runner_refusal plan_outcome
facts =
    record {
      tested = (refl, refl, refl, refl, refl, refl, refl, refl, refl);
      last_place = (refl, refl, refl, refl, refl, refl);
      places = (refl, refl, refl);
      order = (refl, refl);
      room = (refl, refl, refl, refl, refl);
      empty = (refl, refl);
      runs = refl;
      rounds = (refl, refl, refl, refl, refl);
      refuses = (refl, refl);
    }
