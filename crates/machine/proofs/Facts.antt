-- The table of specs/Facts, by computing the definitions. Rests on the definitions alone else.
use mathlib.Core.Path.{refl}
use native.Mathlib.Omega.{arith}
use Rattle.fields.specs.Fields.{signed_of, bits_of}
use Rattle.machine.specs.Effect.{bit, wrap_add, both, pick, perform}
use Rattle.machine.specs.Word.{packed, packed_set, decode_at, zeros_kept, present, admissible_at}
use Rattle.machine.specs.Log.{carry, logged, cells_after, log_from, log_of, replay_from, replay, ToldFrom, without_published_from, without_published}
use Rattle.machine.specs.Depth.{greatest_from, decode_all, depth_of, charge_of}
use Rattle.machine.specs.Facts.{Facts}

pub facts : Facts
unfolding signed_of bits_of bit wrap_add both pick perform packed packed_set decode_at zeros_kept present admissible_at carry logged cells_after log_from log_of replay_from replay ToldFrom without_published_from without_published greatest_from decode_all depth_of charge_of
facts =
    record {
      words = (refl, refl, refl, refl, refl, refl, refl, refl, refl);
      instructions = (refl, refl, refl, refl, refl, refl, refl, refl, refl, refl, refl);
      set = (refl, refl, refl, refl);
      copy = refl;
      add = (refl, refl, refl);
      less = (refl, refl, refl, refl, refl, refl);
      equal = (refl, refl, refl, refl, refl, refl, refl);
      both = (refl, refl, refl, refl, refl);
      moveif = (refl, refl, refl, refl, refl);
      open_keeps = refl;
      column = (refl, refl, refl, refl, refl, refl, refl, refl);
      greatest = (refl, refl, refl, refl);
      reads = (refl, refl, refl, refl, refl, refl, refl, refl, refl);
      hands_on = (refl, refl, refl);
      reads_d = (refl, refl, refl, refl, refl, refl);
      zeros_unread = (refl, refl);
      set_reads_none = (refl, refl);
      takes = (refl, refl, refl);
      open_writes_none = (refl, refl);
      published_free = (refl, refl);
      published = (refl, refl, refl, refl, refl);
      log = (refl, refl);
      order = refl;
      spared = (
        λ opens. absurd (opens refl),
        λ other e. omega (arith, e),
        λ f. f (λ e. omega (arith, e)) refl,
        λ f. f (λ e. omega (arith, e)) refl,
      );
      without = (refl, refl, refl);
      told = ((refl, (refl, tt)), λ t. omega (arith, t.1.0), λ t. t);
      first_word = (refl, refl, refl);
      later_words = refl;
      passed_over = (refl, refl, refl);
      ended = (refl, refl, refl, refl, refl, refl);
      not_ended = (refl, refl);
      admitted = (refl, refl, refl, refl, refl, refl, refl, refl, refl);
    }
