-- The facts hold, by computing. Rests on the definitions alone.
use mathlib.Core.Path.{refl}
use Rattle.saved.specs.Saved.{convertible, converted, saved_refusal, conversion_outcome}
use Rattle.saved.specs.Facts.{Facts}

pub facts : Facts
unfolding conversion_outcome saved_refusal convertible converted
facts =
    record {
      converts = refl;
      empty = refl;
      over = refl;
      under = refl;
      lowest = refl;
      beside = (refl, refl);
      twice = refl;
    }
