-- The table of specs/Facts, by computing the definitions. Rests on the definitions alone else.
use mathlib.Core.Path.{refl}
use Rattle.fields.specs.Fields.{signed_of}
use Rattle.plans.specs.Blocks.{flat}
use Rattle.plans.specs.Plan.{cells_of}
use Rattle.limits.specs.Word.{weight_of}
use Rattle.intake.specs.Intake.{strips_of, source_of, laid, copied, starting_cells}
use Rattle.intake.specs.Facts.{Facts}

pub facts : Facts
unfolding signed_of flat cells_of weight_of strips_of source_of laid copied starting_cells
facts =
    record {
      strips1 = (refl, refl, refl, refl, refl, refl, refl, refl, refl, refl, refl, refl);
      strips2 = (refl, refl, refl, refl, refl);
      strips3 = (refl, refl, refl, refl, refl, refl, refl, refl, refl, refl, refl, refl, refl);
      strips4 = (refl, refl, refl, refl, refl, refl, refl, refl, refl, refl, refl, refl);
      strips5 = (refl, refl, refl, refl, refl, refl, refl, refl, refl, refl, refl, refl, refl, refl);
      start1 = refl;
      start3 = refl;
      start4 = refl;
      start5 = refl;
      whole = (refl, refl);
      start2 = refl;
    }
