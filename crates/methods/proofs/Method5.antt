-- Method 5's plan on a bank that intake has laid leaves what method 1's does, and the route to the destination.
-- Rests on method 1, on routes and on marks followed back.
use mathlib.Core.Path.{◌≡◌, sym, ◌∙◌}
use mathlib.Core.List.{List}
use Prim.Native.Nat.{ℕ, ◌+◌, ◌-◌, ◌*◌, ◌<◌, ◌≤◌}
use native.Mathlib.Omega.{arith}
use lib.IntN.{ℤ, pos}
use Rattle.machine.specs.Effect.{bit, cell_at}
use Rattle.plans.specs.Outline.{start, instructions}
use Rattle.plans.specs.Method1.{solve}
use Rattle.plans.specs.Method5 as Method5
use Rattle.plans.specs.Method5.{P, Z, R, starts, cell_count, show, outline}
use Rattle.plans.proofs.Addresses.{Kept, keeps}
use Rattle.graph.specs.Walk.{Edge, NegativeCycle}
use Rattle.graph.specs.BellmanFord.{network, State, slack}
use Rattle.graph.specs.Route.{RouteTo}
use Rattle.graph.proofs.Marks.{Mark, marks}
use Rattle.graph.proofs.Route.{behind_below, shown_same, route_to}
use Rattle.methods.specs.Bank.{perform_all}
use Rattle.methods.specs.Edges.{Laid, Solved}
use Rattle.methods.specs.Method1.{Room}
use Rattle.methods.specs.Method5.{places, goal, step, plan}
use Rattle.methods.proofs.Steps.{Runs}
use Rattle.methods.proofs.Banks.{Layout}
use Rattle.methods.proofs.Names.{Name, same, pair, Store, regions}
use Rattle.methods.proofs.Unnamed.{spared}
use Rattle.methods.proofs.OverEdges.{Sum, steps, joined_runs, ends_below}
use Rattle.methods.proofs.Edges.{Given}
use Rattle.methods.proofs.Passes as Passes
use Rattle.methods.proofs.Passes.{solve_runs}
use Rattle.methods.proofs.Method1 as Method1
use Rattle.methods.proofs.Routes.{Shown, show_runs}

-- With n - 1 places of the route, which are `cell_count` cells where there is a vertex.
abbrev pub layout : (n m : ℕ) → Layout Name same
layout n m = regions (starts n m) (3 * m + 4 * n + 9 + (n - 1)) (omega arith)

-- A call of `search` takes so many steps only: one for each of the outline's first parts.
pub kept : (far : ℤ) (n m : ℕ) → Kept (layout n m).Good (λ z. Unit {0}) pair far n m outline
kept far n m = (search arith, (search arith, (search arith, (search arith, (search arith, (search arith, search arith))))))

module _ (far limit : ℕ) (edge : ℕ → Edge) (n m source z : ℕ) (cells : List ℤ) (room : Room far limit n m)
    (laid : Laid (places n m).inputs limit edge n m source cells) (aim : cell_at cells (goal n m) ≡ pos z) (there : z < n) where
  abbrev final : State
  final = Passes.final far limit edge n m source

  abbrev left : List ℤ
  left = perform_all (plan far n m source) cells

  abbrev before : Store
  before a = cell_at cells ((layout n m).place a)

  -- What method 1 leaves, and the route.
  abbrev End : Store → Type 0
  End = Shown far limit edge n m source z final (bit (slack edge (pos far) m final))

  marked : (v : ℕ) → Mark m (final.parent v)
  marked = marks edge (pos far) m source (n - 1)

  -- The destination is in region 7, which method 1's part does not name.
  runs : Given edge m before → Runs (steps far limit) (instructions pair (pos far) n m source outline start) End before
  runs given =
      joined_runs far limit n m source solve show _ End before
      (spared (Sum far limit) 7 (instructions pair (pos far) n m source solve start)
      (keeps (λ a. a.0 < 7) (λ z. Unit {0}) pair (pos far) n m source solve (search arith)) _ before
      (solve_runs far limit edge n m source room laid.limited before given))
      (λ t (h, same).
      show_runs far limit edge n m source z final _ laid.limited marked there t h (same (Z 0) (omega arith) ∙ aim))

  small : (layout n m).size ≤ cell_count n m
  small = omega (arith, there)

  pub method5 : Solved (places n m) far (plan far n m source) edge n m source cells left
  unfolding Method5.plan
  method5 =
      Method1.passed (layout n m) (cell_count n m) small far limit edge n m source cells laid outline (kept (pos far) n m) End runs room
      (λ t h. h.0) (λ v l. (omega arith, omega arith)) (omega arith)

  pub routed : ¬ NegativeCycle (network edge m) source
      → RouteTo edge m (pos far) n source (λ v. cell_at left ((places n m).dist v)) (λ v. cell_at left ((places n m).parent v)) z
      (λ k. cell_at left (step n m k))
  unfolding Method5.plan
  routed none =
      let ended = (Method1.ran (layout n m) (cell_count n m) small far limit edge n m source cells laid outline (kept (pos far) n m) End runs).1 in
      route_to edge m n source (pos far) _ _ (ends_below edge n m laid.limited) laid.source_below (method5.shortest none) z there _
      (λ k l.
      ended.mirrored.cell (R k) (omega arith)
      ∙ ended.meets.1 k l
      ∙ sym
      (shown_same edge n final.parent _ (λ v l. ended.mirrored.cell (P v) (omega arith) ∙ ended.meets.0.parent v l) z
      (behind_below edge m n laid.limited.from_below final.parent marked z there) k))
