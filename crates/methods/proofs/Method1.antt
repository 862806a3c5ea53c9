-- Method 1's plan on a bank that intake has laid leaves least totals, their parents and the verdict.
-- Rests on passes, banks and Bellman-Ford.
use mathlib.Core.Path.{◌∙◌}
use mathlib.Core.List.{List}
use Prim.Native.Nat.{ℕ, suc, ◌-◌, ◌*◌, ◌<◌, ◌≤◌}
use native.Mathlib.Omega.{arith}
use lib.IntN.{ℤ, pos}
use lib.ListN.{length}
use lib.Signed.{◌<ℤ◌}
use Rattle.machine.specs.Instruction.{Instruction}
use Rattle.machine.specs.Effect.{cell_at}
use Rattle.plans.specs.Outline.{Outline, start, instructions}
use Rattle.plans.specs.Method1 as Method1
use Rattle.plans.specs.Method1.{D, P, X, starts, cell_count, outline}
use Rattle.plans.proofs.Addresses.{Kept}
use Rattle.graph.specs.Walk.{Edge}
use Rattle.graph.specs.BellmanFord.{slack}
use Rattle.graph.proofs.Int.{arithℤ}
use Rattle.graph.proofs.BellmanFord.{negative_cycle, no_cycle, shortest}
use Rattle.methods.specs.Bank.{perform_all, Summed}
use Rattle.methods.specs.Edges.{Places, Laid, Solved}
use Rattle.methods.specs.Method1.{Room, places_by, places, plan}
use Rattle.methods.proofs.Steps.{Claim, Runs}
use Rattle.methods.proofs.Banks.{Layout, Ended, on_bank}
use Rattle.methods.proofs.Names.{Name, same, pair, Store, regions}
use Rattle.methods.proofs.OverEdges.{Sum, steps, ends_below}
use Rattle.methods.proofs.Solved.{solved}
use Rattle.methods.proofs.Edges.{Given}
use Rattle.methods.proofs.Passes.{final, End, plan_runs}

-- ---- in any layout, an outline after which R holds: method 5 has one too

module _ (L : Layout Name same) (count : ℕ) (small : L.size ≤ count) (far limit : ℕ) (edge : ℕ → Edge) (n m source : ℕ) (cells : List ℤ) where
  abbrev at : Places
  at = places_by count L.place

  abbrev before : Store
  before a = cell_at cells (L.place a)

  module _ (laid : Laid at.inputs limit edge n m source cells) (o : Outline) (kept : Kept L.Good (λ z. Unit {0}) pair (pos far) n m o)
      (R : Claim Store) (runs : Given edge m before → Runs (steps far limit) (instructions pair (pos far) n m source o start) R before) where
    abbrev at_places : List (Instruction ℕ)
    at_places = instructions (λ r p. L.place (r, p)) (pos far) n m source o start

    abbrev left : List ℤ
    left = perform_all at_places cells

    pub enough : L.size ≤ length cells
    enough = omega (arith, small, laid.enough)

    pub ran : Summed (Sum far limit) at_places cells × Ended same L cells enough R left
    ran =
        on_bank same L cells enough (Sum far limit) R pair (pos far) n m source o kept
        (runs (record { from = laid.from; to = laid.to; weight = laid.weight }))

    -- If R says that the state and the flag are those of Bellman-Ford.
    pub passed : Room far limit n m → ((t : Store) → R t → End far limit edge n m source t)
        → ((v : ℕ) → v < n → L.Good (D v) × L.Good (P v)) → L.Good (X 7) → Solved at far at_places edge n m source cells left
    passed room ends rows verdict =
        let below = ends_below edge n m laid.limited in
        let weights = laid.limited.weight_most in
        let deep : pos (suc ((n - 1) * m) * limit) <ℤ pos far = omega (arithℤ, room.deep) in
        let mirrored = ran.1.mirrored in
        let end = ends _ ran.1.meets in
        let last = final far limit edge n m source in
        solved at at_places laid room.fits last (slack edge (pos far) m last)
        (record {
          flag = mirrored.cell (X 7) verdict ∙ end.flag;
          dist = λ v l. mirrored.cell (D v) (rows v l).0 ∙ end.dist v l;
          parent = λ v l. mirrored.cell (P v) (rows v l).1 ∙ end.parent v l;
          rest = λ k l. mirrored.rest k (omega (arith, small));
          long = mirrored.long;
          sums = ran.0;
        })
        (negative_cycle edge m n source (pos far) limit below laid.source_below weights deep)
        (no_cycle edge m n source (pos far) limit below laid.source_below weights deep)
        (shortest edge m n source (pos far) limit below laid.source_below weights deep)

-- ---- method 1

abbrev pub layout : (n m : ℕ) → Layout Name same
layout n m = regions (starts n m) (cell_count n m) (omega arith)

pub kept : (far : ℤ) (n m : ℕ) → Kept (layout n m).Good (λ z. Unit {0}) pair far n m outline
kept far n m = search arith

module _ (far limit : ℕ) (edge : ℕ → Edge) (n m source : ℕ) (cells : List ℤ) (room : Room far limit n m)
    (laid : Laid (places n m).inputs limit edge n m source cells) where
  pub method1 : Solved (places n m) far (plan far n m source) edge n m source cells (perform_all (plan far n m source) cells)
  unfolding Method1.plan
  method1 =
      passed (layout n m) (cell_count n m) (omega arith) far limit edge n m source cells laid outline (kept (pos far) n m) _
      (plan_runs far limit edge n m source room laid.limited _) room (λ t h. h) (λ v l. (omega arith, omega arith)) (omega arith)
