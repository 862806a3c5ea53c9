-- Method 3's plan on a bank that intake has laid, its edges sorted by to-vertex, leaves least totals, their parents and the
-- verdict, those of synchronous passes.
-- Rests on Jacobi passes, of this crate and of graph, and on banks.
use mathlib.Core.Path.{◌≡◌, ◌∙◌}
use mathlib.Core.List.{List}
use Prim.Native.Nat.{ℕ, ◌*◌, ◌<◌}
use native.Mathlib.Omega.{arith}
use lib.IntN.{ℤ, pos}
use lib.Signed.{◌<ℤ◌}
use Rattle.machine.specs.Effect.{bit, cell_at}
use Rattle.plans.specs.Method3 as Method3
use Rattle.plans.specs.Method3.{D, P, X, starts, cell_count, outline}
use Rattle.plans.proofs.Addresses.{Kept}
use Rattle.graph.specs.Walk.{Edge}
use Rattle.graph.specs.BellmanFord.{State}
use Rattle.graph.specs.Jacobi.{jacobi, slack, Sorted, Synchronous}
use Rattle.graph.proofs.Int.{arithℤ}
use Rattle.graph.proofs.Jacobi.{negative_cycle, no_cycle, shortest}
use Rattle.graph.proofs.Synchronous.{synchronous, synchronous_carried}
use Rattle.methods.specs.Bank.{perform_all, Summed}
use Rattle.methods.specs.Edges.{Laid, Solved}
use Rattle.methods.specs.Method3.{Room, places, plan}
use Rattle.methods.proofs.Banks.{Layout, Ended, on_bank}
use Rattle.methods.proofs.Names.{Name, same, pair, Store, regions}
use Rattle.methods.proofs.OverEdges.{Sum, ends_below}
use Rattle.methods.proofs.Solved.{solved}
use Rattle.methods.proofs.Sweeps.{Given, Holds}
use Rattle.methods.proofs.Jacobi.{plan_runs}

abbrev pub layout : (n m : ℕ) → Layout Name same
layout n m = regions (starts n m) (cell_count n m) (omega arith)

-- A call of `search` takes so many steps only: one for each of the outline's first parts.
pub kept : (far : ℤ) (n m : ℕ) → Kept (layout n m).Good (λ z. Unit {0}) pair far n m outline
kept far n m = (search arith, (search arith, (search arith, (search arith, search arith))))

module _ (far limit : ℕ) (edge : ℕ → Edge) (n m source : ℕ) (cells : List ℤ) (room : Room far limit n)
    (laid : Laid (places n m).inputs limit edge n m source cells) (sorted : Sorted edge m) where
  abbrev final : State
  final = jacobi edge (pos far) n m source

  abbrev left : List ℤ
  left = perform_all (plan far n m source) cells

  abbrev End : Store → Type 0
  End = Holds far edge n m final (bit (slack edge (pos far) m n final))

  given : Given edge m (λ a. cell_at cells ((layout n m).place a))
  given = record { from = laid.from; to = laid.to; weight = laid.weight }

  ran : Summed (Sum far limit) (plan far n m source) cells × Ended same (layout n m) cells laid.enough End left
  unfolding Method3.plan
  ran =
      on_bank same (layout n m) cells laid.enough (Sum far limit) End pair (pos far) n m source outline (kept (pos far) n m)
      (plan_runs far limit edge n m source room laid.limited sorted laid.source_below _ given)

  dist : (v : ℕ) → v < n → cell_at left ((places n m).dist v) ≡ final.dist v
  dist v l = ran.1.mirrored.cell (D v) (omega arith) ∙ ran.1.meets.dist v l

  parent : (v : ℕ) → v < n → cell_at left ((places n m).parent v) ≡ final.parent v
  parent v l = ran.1.mirrored.cell (P v) (omega arith) ∙ ran.1.meets.parent v l

  deep : pos (n * limit) <ℤ pos far
  deep = omega (arithℤ, room.deep)

  pub by_passes : Synchronous edge m (pos far) n source (λ v. cell_at left ((places n m).dist v)) (λ v. cell_at left ((places n m).parent v))
  by_passes =
      synchronous_carried edge m (pos far) n source _ _ _ _ dist parent
      (synchronous edge m n source (pos far) limit (ends_below edge n m laid.limited) laid.source_below laid.limited.weight_most deep)

  pub method3 : Solved (places n m) far (plan far n m source) edge n m source cells left
  method3 =
      let below = ends_below edge n m laid.limited in
      let weights = laid.limited.weight_most in
      solved (places n m) (plan far n m source) laid room.fits final (slack edge (pos far) m n final)
      (record {
        flag = ran.1.mirrored.cell (X 8) (omega arith) ∙ ran.1.meets.flag;
        dist = dist;
        parent = parent;
        rest = λ k l. ran.1.mirrored.rest k (omega arith);
        long = ran.1.mirrored.long;
        sums = ran.0;
      })
      (negative_cycle edge m n source (pos far) limit below laid.source_below weights deep)
      (no_cycle edge m n source (pos far) limit below laid.source_below weights deep)
      (shortest edge m n source (pos far) limit below laid.source_below weights deep)
