-- The rounds of every header's plan, and the charge of the log of any run of it, are the header's figure (document 02, ask 4).
-- Rests on each method's greatest depth, on Places and on the machine's laws of words and logs.
use mathlib.Core.Path.{◌≡◌, ap, ◌∙◌}
use mathlib.Core.Bool.{cond}
use mathlib.Core.List.{List}
use Prim.Native.Nat.{ℕ, ◌+◌, ◌-◌, ◌*◌, ◌<◌, max}
use lib.Dec.{eqb}
use lib.IntN.{ℤ}
use lib.ListN.{drop}
use Rattle.machine.specs.Log.{log_of}
use Rattle.machine.specs.Depth.{greatest, depth_of, charge_of}
use Rattle.machine.proofs.Encoded.{decode_all_is}
use Rattle.machine.proofs.Replayed as Replayed
use Rattle.plans.specs.declared.Header.{Header}
use Rattle.plans.specs.Limits.{far}
use Rattle.plans.specs.Regions.{address}
use Rattle.plans.specs.Method1 as Plan1
use Rattle.plans.specs.Method2 as Plan2
use Rattle.plans.specs.Method3 as Plan3
use Rattle.plans.specs.Method4 as Plan4
use Rattle.plans.specs.Method5 as Plan5
use Rattle.plans.specs.Plan.{Accepted, instructions_of, plan_of, rounds_of_plan}
use Rattle.plans.proofs.Headers.{each_method}
use Rattle.plans.proofs.Addresses.{fits_plan}
use Rattle.methods.proofs.Names.{same, pair}
use Rattle.methods.proofs.Method1 as Method1
use Rattle.methods.proofs.Method2 as Method2
use Rattle.methods.proofs.Method3 as Method3
use Rattle.methods.proofs.Method4 as Method4
use Rattle.methods.proofs.Method5 as Method5
use Rattle.depths.proofs.Places.{at_places}
use Rattle.depths.proofs.Method1.{greatest1}
use Rattle.depths.proofs.Method2.{greatest2}
use Rattle.depths.proofs.Method3.{greatest3}
use Rattle.depths.proofs.Method4.{greatest4}
use Rattle.depths.proofs.Method5.{greatest5}

-- ---- each method's plan, at its places

module _ (far : ℤ) (n m source : ℕ) (some : 0 < n) where
  depth1 : greatest eqb (Plan1.plan (address (Plan1.starts n m)) far n m source) ≡ cond (eqb m 0) 2 (m * (n * n + 9 * n - 9) + n + 16)
  unfolding Plan1.plan
  depth1 = at_places same (Method1.layout n m) pair far n m source Plan1.outline (Method1.kept far n m) ∙ greatest1 far n m source some

  depth2 : greatest eqb (Plan2.plan (address (Plan2.starts n)) far n source) ≡ 9 * (n * n) + 13 * n + 1
  unfolding Plan2.plan
  depth2 = at_places same (Method2.layout n) pair far n 0 source Plan2.outline (Method2.kept far n) ∙ greatest2 far n source some

  depth3 : greatest eqb (Plan3.plan (address (Plan3.starts n m)) far n m source)
      ≡ cond (eqb m 0) (8 * n + 1) (9 * (n * m) + n * n + 8 * n + 7)
  unfolding Plan3.plan
  depth3 = at_places same (Method3.layout n m) pair far n m source Plan3.outline (Method3.kept far n m) ∙ greatest3 far n m source some

  depth4 : greatest eqb (Plan4.plan (address (Plan4.starts n m)) far n m) ≡ cond (eqb m 0) (7 * n + 9) (7 * n + 7 * m + 16)
  unfolding Plan4.plan
  depth4 = at_places same (Method4.layout n m) pair far n m 0 Plan4.outline (Method4.kept far n m) ∙ greatest4 far n m some

  depth5 : greatest eqb (Plan5.plan (address (Plan5.starts n m)) far n m source)
      ≡ cond (eqb m 0) (max 2 (n * n + 5 * n - 5)) (m * ((n - 1) * (n + 9)) + max (m * n + n + 16) (m + n * n + 5 * n + 1))
  unfolding Plan5.plan
  depth5 = at_places same (Method5.layout n m) pair far n m source Plan5.outline (Method5.kept far n m) ∙ greatest5 far n m source some

-- ---- every header's

deep : (h : Header) → Accepted h → greatest eqb (instructions_of h) ≡ rounds_of_plan h
unfolding instructions_of rounds_of_plan
deep =
    each_method (λ h. greatest eqb (instructions_of h) ≡ rounds_of_plan h)
    (λ n m source a. depth1 far n m source a.vertices_some)
    (λ n source a. depth2 far n 0 source a.vertices_some)
    (λ n m source a. depth3 far n m source a.vertices_some)
    (λ n m a. depth4 far n m 0 a.vertices_some)
    (λ n m source a. depth5 far n m source a.vertices_some)

pub rounds_plan : (h : Header) → Accepted h → depth_of (drop 1 (plan_of h)) ≡ rounds_of_plan h
unfolding plan_of depth_of
rounds_plan h a = ap (greatest eqb) (decode_all_is (instructions_of h) (fits_plan h a)) ∙ deep h a

-- No depths have to be found: the log's charge follows from the header.
pub rounds_log : (h : Header) → Accepted h → (cells : List ℤ) → charge_of (log_of (plan_of h) cells) ≡ rounds_of_plan h
rounds_log h a cells = Replayed.charge_log (plan_of h) cells ∙ rounds_plan h a
