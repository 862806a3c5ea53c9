-- What a method fixes of its results besides shortest walks, by method. Rests on the network's edges and on graph.
use Rattle.std.specs.Prelude.{List, [], ◌∷◌, ℕ, ℤ}
use Rattle.plans.specs.declared.Header.{Header}
use Rattle.plans.specs.Limits.{far, by_method}
use Rattle.plans.specs.Plan.{Kind, distances, parents, route}
use Rattle.limits.specs.Word.{destination_in}
use Rattle.graph.specs.Jacobi.{Synchronous}
use Rattle.graph.specs.Route.{RouteTo}
use Rattle.demands.specs.Network.{edge_of}

-- Method 3: they are those of synchronous passes (document 02, ask 3). Method 5: the route is that to the destination (ask 5).
unfoldable pub besides_of : Header → (words : List ℕ) → (results : Kind → ℕ → ℤ) → Type 0
besides_of h ws results =
    by_method h.method (Unit {0})
    (Unit {0}
    ∷ Unit {0}
    ∷ Synchronous (edge_of ws) h.edges far h.vertices h.source (results distances) (results parents)
    ∷ Unit {0}
    ∷ RouteTo (edge_of ws) h.edges far h.vertices h.source (results distances) (results parents) (destination_in h ws) (results route)
    ∷ [])
