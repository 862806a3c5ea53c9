-- The table of specs/Facts, by computing the definitions. Rests on the definitions alone else.
use mathlib.Core.Path.{refl}
use Rattle.fields.specs.Fields.{bits_of}
use Rattle.headers.specs.Refusal.{header_refusal}
use Rattle.headers.specs.Facts.{Facts}

pub facts : Facts
unfolding bits_of header_refusal
facts =
    record {
      ends = (refl, refl, refl, refl, refl, refl, refl, refl, refl, refl, refl, refl, refl, refl, refl, refl);
      ends4 = (refl, refl, refl, refl, refl, refl, refl, refl, refl);
      ends5 = (refl, refl, refl, refl, refl, refl, refl);
      order = (refl, refl, refl, refl, refl, refl, refl, refl);
    }
