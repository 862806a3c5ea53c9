-- The words of a header's plan, carried out on cells that intake has laid, have the outcome of their method.
-- Rests on the methods and on the words of instructions.
use mathlib.Core.Path.{◌≡◌}
use mathlib.Core.List.{List}
use Prim.Native.Nat.{ℕ, ◌<◌}
use lib.IntN.{ℤ, pos, nat_abs}
use lib.ListN.{drop}
use Rattle.machine.specs.Effect.{cell_at}
use Rattle.machine.specs.Log.{cells_after}
use Rattle.plans.specs.declared.Header.{Header}
use Rattle.plans.specs.Limits.{far}
use Rattle.plans.specs.Plan.{Accepted, instructions_of, plan_of}
use Rattle.plans.proofs.Headers.{edges_small, instructions_one, instructions_two, instructions_three, instructions_four, instructions_five}
use Rattle.plans.proofs.Addresses.{fits_plan}
use Rattle.graph.specs.Walk.{Edge, NegativeCycle}
use Rattle.graph.specs.BellmanFord.{network}
use Rattle.graph.specs.Jacobi.{Sorted, Synchronous}
use Rattle.graph.specs.Route.{RouteTo}
use Rattle.methods.specs.Bank.{perform_all}
use Rattle.methods.specs.Edges.{Places, Laid, Solved}
use Rattle.methods.specs.Method1 as Method1
use Rattle.methods.specs.Method2 as Method2
use Rattle.methods.specs.Method3 as Method3
use Rattle.methods.specs.Method4 as Method4
use Rattle.methods.specs.Method5 as Method5
use Rattle.methods.proofs.Words.{after_words}
use Rattle.methods.proofs.Method1.{method1}
use Rattle.methods.proofs.Method2.{method2}
use Rattle.methods.proofs.Method3.{method3, by_passes}
use Rattle.methods.proofs.Method4.{method4}
use Rattle.methods.proofs.Method5.{method5, routed}
use Rattle.methods.proofs.Rooms.{Wide, room1, room2, room3, room4}

module _ (h : Header) (accepted : Accepted h) (cells : List ℤ) where
  pub after_plan : cells_after (drop 1 (plan_of h)) cells ≡ perform_all (instructions_of h) cells
  unfolding plan_of
  after_plan = after_words (instructions_of h) (fits_plan h accepted) cells

  module _ (limit : ℕ) (wide : Wide (nat_abs far) limit) where
    -- For a method over private edges: what intake lays, and what the plan leaves.
    module _ (at : Places) (edge : ℕ → Edge) where
      abbrev LaidAt : Type 0
      LaidAt = Laid at.inputs limit edge h.vertices h.edges h.source cells

      abbrev SolvedAt : Type 0
      SolvedAt =
          Solved at (nat_abs far) (instructions_of h) edge h.vertices h.edges h.source cells
          (cells_after (drop 1 (plan_of h)) cells)

    pub header1 : (edge : ℕ → Edge) → h.method ≡ 1 → LaidAt (Method1.places h.vertices h.edges) edge
        → SolvedAt (Method1.places h.vertices h.edges) edge
    header1 edge e laid =
        rw (after_plan, instructions_one h e)
        (method1 (nat_abs far) limit edge h.vertices h.edges h.source cells
        (room1 (nat_abs far) limit wide h.vertices accepted.vertices_few h.edges (edges_small h accepted)) laid)

    pub header2 : (table : ℕ → ℕ → ℕ) → h.method ≡ 2 → Method2.Laid (nat_abs far) limit table h.vertices h.source cells
        → Method2.Solved (nat_abs far) table h.vertices h.source cells (cells_after (drop 1 (plan_of h)) cells)
    header2 table e laid =
        rw (after_plan, instructions_two h e)
        (method2 (nat_abs far) limit table h.vertices h.source cells
        (room2 (nat_abs far) limit wide h.vertices accepted.vertices_few) laid)

    pub header3 : (edge : ℕ → Edge) → h.method ≡ 3 → Sorted edge h.edges
        → LaidAt (Method3.places h.vertices h.edges) edge
        → SolvedAt (Method3.places h.vertices h.edges) edge
        × Synchronous edge h.edges far h.vertices h.source
        (λ v. cell_at (cells_after (drop 1 (plan_of h)) cells) ((Method3.places h.vertices h.edges).dist v))
        (λ v. cell_at (cells_after (drop 1 (plan_of h)) cells) ((Method3.places h.vertices h.edges).parent v))
    header3 edge e sorted laid =
        let room = room3 (nat_abs far) limit wide h.vertices accepted.vertices_few in
        rw (after_plan, instructions_three h e) (
          method3 (nat_abs far) limit edge h.vertices h.edges h.source cells room laid sorted,
          by_passes (nat_abs far) limit edge h.vertices h.edges h.source cells room laid sorted,
        )

    pub header4 : (edge : ℕ → Edge) → h.method ≡ 4 → Laid (Method4.inputs h.vertices h.edges) limit edge h.vertices h.edges 0 cells
        → Method4.Solved (nat_abs far) limit edge h.vertices h.edges cells (cells_after (drop 1 (plan_of h)) cells)
    header4 edge e laid =
        rw (after_plan, instructions_four h e)
        (method4 (nat_abs far) limit edge h.vertices h.edges cells
        (room4 (nat_abs far) limit wide h.vertices accepted.vertices_few) laid)

    pub header5 : (edge : ℕ → Edge) (z : ℕ) → h.method ≡ 5 → LaidAt (Method5.places h.vertices h.edges) edge
        → cell_at cells (Method5.goal h.vertices h.edges) ≡ pos z → z < h.vertices
        → SolvedAt (Method5.places h.vertices h.edges) edge
        × (¬ NegativeCycle (network edge h.edges) h.source
        → RouteTo edge h.edges far h.vertices h.source
        (λ v. cell_at (cells_after (drop 1 (plan_of h)) cells) ((Method5.places h.vertices h.edges).dist v))
        (λ v. cell_at (cells_after (drop 1 (plan_of h)) cells) ((Method5.places h.vertices h.edges).parent v)) z
        (λ k. cell_at (cells_after (drop 1 (plan_of h)) cells) (Method5.step h.vertices h.edges k)))
    header5 edge z e laid aim there =
        let room = room1 (nat_abs far) limit wide h.vertices accepted.vertices_few h.edges (edges_small h accepted) in
        rw (after_plan, instructions_five h e) (
          method5 (nat_abs far) limit edge h.vertices h.edges h.source z cells room laid aim there,
          routed (nat_abs far) limit edge h.vertices h.edges h.source z cells room laid aim there,
        )
