-- The table of specs/Facts, by computing the definitions. Rests on the definitions alone else.
use mathlib.Core.Path.{refl}
use Prim.Native.Nat.{ℕ, ◌-◌, ◌^◌, ◌<◌, ◌≤◌}
use native.Mathlib.Omega.{arith}
use lib.Dec.{T, ltb, le→leb}
use lib.Signed.{◌≤ℤ◌, le_z_yes}
use borrow.Author.Tests.{ltb-true}
use Rattle.lists.proofs.Test.{by_test}
use Rattle.fields.specs.Fields.{signed_of, bits_of}
use Rattle.machine.specs.Word.{packed, packed_set}
use Rattle.plans.specs.Blocks.{flat}
use Rattle.plans.specs.Outline.{instructions}
use Rattle.plans.specs.declared.Header.{Header}
use Rattle.plans.specs.Limits.{far, known_method, most_edges, source_count}
use Rattle.plans.specs.Method1 as Method1
use Rattle.plans.specs.Method2 as Method2
use Rattle.plans.specs.Method3 as Method3
use Rattle.plans.specs.Method4 as Method4
use Rattle.plans.specs.Method5 as Method5
use Rattle.plans.specs.Plan.{header_of, Accepted, instructions_of, plan_of, word_count_of, cells_of, results_of, verdict_cell}
use Rattle.plans.specs.Facts.{Facts}

within : (h : Header) → T (known_method h.method) → 0 < h.vertices → h.vertices ≤ 32
    → h.edges ≤ most_edges h.method → h.source < source_count h.method h.vertices → Accepted h
within h known some few edges source =
    record { known = known; vertices_some = some; vertices_few = few; edges_few = edges; source_there = source }

largest : (bits : ℕ) → signed_of 40 bits ≤ℤ far
unfolding signed_of
largest bits =
    by_test (ltb bits (2 ^ 39))
    (λ e. rw e (le_z_yes (le→leb bits (2 ^ 39 - 1) (omega (arith, ltb-true bits (2 ^ 39) e)))))
    (λ e. rw e (le_z_yes tt))

pub facts : Facts
unfolding bits_of signed_of packed packed_set flat instructions Method1.plan Method2.plan Method3.plan Method4.plan Method5.plan instructions_of plan_of word_count_of cells_of results_of verdict_cell
facts =
    record {
      far_is = refl;
      far_written = refl;
      far_largest = largest;
      header_fields = (refl, refl, refl);
      least1 = within _ tt (omega arith) (omega arith) (omega arith) (omega arith);
      most1 = within _ tt (omega arith) (omega arith) (omega arith) (omega arith);
      least2 = within _ tt (omega arith) (omega arith) (omega arith) (omega arith);
      most2 = within _ tt (omega arith) (omega arith) (omega arith) (omega arith);
      least3 = within _ tt (omega arith) (omega arith) (omega arith) (omega arith);
      most3 = within _ tt (omega arith) (omega arith) (omega arith) (omega arith);
      least4 = within _ tt (omega arith) (omega arith) (omega arith) (omega arith);
      most4 = within _ tt (omega arith) (omega arith) (omega arith) (omega arith);
      least5 = within _ tt (omega arith) (omega arith) (omega arith) (omega arith);
      most5 = within _ tt (omega arith) (omega arith) (omega arith) (omega arith);
      method0 = λ a. a.known;
      method6 = λ a. a.known;
      vertices0 = λ (a : Accepted (header_of 0x1000000000000000)). omega arith;
      vertices33 = λ (a : Accepted (header_of 0x1000210000000000)). omega arith;
      edges129 = λ (a : Accepted (header_of 0x1000010008100000)). omega arith;
      sorted129 = λ (a : Accepted (header_of 0x3000010008100000)). omega arith;
      every129 = λ (a : Accepted (header_of 0x4000010008100000)). omega arith;
      routed129 = λ (a : Accepted (header_of 0x5000010008100000)). omega arith;
      edges1 = λ (a : Accepted (header_of 0x2000010000100000)). omega arith;
      source_past1 = λ (a : Accepted (header_of 0x1000200008000020)). omega arith;
      source_past2 = λ (a : Accepted (header_of 0x2000010000000001)). omega arith;
      source_past4 = λ (a : Accepted (header_of 0x4000200008000001)). omega arith;
      source_past5 = λ (a : Accepted (header_of 0x5000200008000020)). omega arith;
      weights = (refl, refl, refl);
      cells = (refl, refl, refl, refl, refl, refl, refl, refl, refl, refl);
      words = (refl, refl, refl, refl, refl);
      results = (refl, refl, refl, refl, refl, refl, refl, refl, refl, refl, refl, refl);
      tables = (refl, refl, refl, refl, refl);
      routes = (refl, refl, refl, refl, refl, refl, refl, refl, refl);
      verdict = (refl, refl, refl, refl, refl, refl, refl, refl, refl);
      plan1 = refl;
      plan2 = refl;
      plan3 = refl;
      plan4 = refl;
      plan5 = refl;
      places5 = refl;
    }
