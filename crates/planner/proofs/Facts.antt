-- The table of specs/Facts, by computing the definitions. Rests on the definitions alone else.
use mathlib.Core.Path.{refl}
use Rattle.fields.specs.Fields.{bits_of}
use Rattle.machine.specs.Word.{packed, packed_set}
use Rattle.plans.specs.Blocks.{flat}
use Rattle.plans.specs.Outline.{instructions}
use Rattle.plans.specs.Method1 as Method1
use Rattle.plans.specs.Method2 as Method2
use Rattle.plans.specs.Method3 as Method3
use Rattle.plans.specs.Method4 as Method4
use Rattle.plans.specs.Method5 as Method5
use Rattle.plans.specs.Plan.{instructions_of, plan_of}
use Rattle.headers.specs.Refusal.{header_refusal}
use Rattle.planner.specs.Written.{plan_refusal}
use Rattle.planner.specs.Facts.{Facts}

pub facts : Facts
unfolding bits_of packed packed_set flat instructions Method1.plan Method2.plan Method3.plan Method4.plan Method5.plan instructions_of plan_of header_refusal plan_refusal
facts =
    record {
      writing_first = (refl, refl, refl, refl, refl, refl, refl);
      writing_short = (refl, refl, refl, refl, refl, refl, refl);
      writing = (refl, refl, refl, refl, refl, refl, refl);
    }
