-- The table of specs/Facts, by computing the definitions. Rests on the definitions alone else.
use mathlib.Core.Path.{refl}
use Rattle.answers.specs.Facts.{Facts}

pub facts : Facts
facts =
    record {
      desk = (refl, refl, refl, refl, refl);
      host = (refl, refl, refl);
      sender = refl;
      carrier = (refl, refl, refl, refl, refl);
      destination = refl;
    }
