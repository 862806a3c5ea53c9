-- Distances and parents by single edges: no edge from a reached vertex makes a distance less, and each mark names an edge that makes it.
-- Rests on distances, and on Route for a walk's last edge.
use mathlib.Core.Path.{◌≡◌, refl}
use mathlib.Core.Logic.{◌≢◌}
use mathlib.Core.List.{[], ◌∷◌, ◌++◌}
use Prim.Native.Nat.{ℕ, ◌<◌}
use lib.IntN.{ℤ, pos, ◌+ℤ◌}
use lib.Signed.{◌≤ℤ◌}
use Rattle.graph.specs.Walk.{Edge, Network, Chain, total, Below}
use Rattle.graph.specs.Shortest.{Naming, LastEdge, Shortest}
use Rattle.graph.proofs.Int.{arithℤ, sum}
use Rattle.graph.proofs.Walk.{total_snoc, chain_append}
use Rattle.graph.proofs.Distances.{has_walk}
use Rattle.graph.proofs.Route.{chain_last}

module _ (net : Network) (Names : Naming) (far : ℤ) (n s : ℕ) (dist parent : ℕ → ℤ) (below : Below net n)
    (h : Shortest net Names far n s dist parent) where
  pub closed : (e : Edge) → net e → dist e.from ≢ far → (dist e.to ≢ far) × (dist e.to ≤ℤ (dist e.from +ℤ e.weight))
  closed e real near =
      let b = below e real in
      let r = h.distances.reached e.from b.0 near in
      let walk = chain_append net r.0 (e ∷ []) s e.from e.to r.1.leads (real, refl, refl) in
      let reached = has_walk net far n s dist h.distances e.to b.1 (r.0 ++ e ∷ [], walk) in
      let q = h.distances.reached e.to b.1 reached in (
        reached,
        omega (
          arithℤ,
          q.1.least (r.0 ++ e ∷ []) walk,
          total_snoc r.0 e,
          r.1.sums,
          sum (total r.0) e.weight,
          sum (dist e.from) e.weight,
        ),
      )

  -- The mark of v names an edge of the network to v, from a reached vertex, that makes v's distance.
  pub record Made (v : ℕ) : Type 0 where
    pub mark : ℕ
    pub edge : Edge
    pub marked : parent v ≡ pos mark
    pub named : Names mark edge
    pub real : net edge
    pub ends : edge.to ≡ v
    pub reached : dist edge.from ≢ far
    pub makes : dist edge.from +ℤ edge.weight ≡ dist v

  pub made : (v : ℕ) → v < n → dist v ≢ far → v ≢ s → Made v
  made v l near ne =
      record {
        mark = t.mark;
        edge = t.edge;
        marked = t.marked;
        named = t.named;
        real = c.1;
        ends = c.2;
        reached = from_reached;
        makes = tight;
      }
    where
      t : LastEdge net Names s dist parent v
      t = h.parents.last_edge v l near ne

      c : Chain net s t.front t.edge.from × net t.edge × (t.edge.to ≡ v)
      c = chain_last net t.front t.edge s v t.least.leads

      from_reached : dist t.edge.from ≢ far
      from_reached = has_walk net far n s dist h.distances t.edge.from (below t.edge c.1).0 (t.front, c.0)

      tight : dist t.edge.from +ℤ t.edge.weight ≡ dist v
      tight =
          let r = h.distances.reached t.edge.from (below t.edge c.1).0 from_reached in
          omega (
            arithℤ,
            r.1.least t.front c.0,
            t.least.sums,
            t.least.least (r.0 ++ t.edge ∷ [])
                (chain_append net r.0 (t.edge ∷ []) s t.edge.from v r.1.leads (c.1, refl, c.2)),
            r.1.sums,
            total_snoc t.front t.edge,
            total_snoc r.0 t.edge,
            sum (total t.front) t.edge.weight,
            sum (total r.0) t.edge.weight,
            sum (dist t.edge.from) t.edge.weight,
          )
