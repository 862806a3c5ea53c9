-- The least weight from one vertex to another, and networks that agree in it (document 02, ask 9: least prices).
-- Rests on walks.
use Rattle.std.specs.Prelude.{◌↔◌, ◌≢◌, ℕ, ◌<◌, ℤ, ◌≤ℤ◌}
use Rattle.std.proofs.Math.Option.{Option, none, some}
use Rattle.graph.specs.Walk.{Edge, Network}

-- The edge from u to v that weighs w.
abbrev pub between : (u v : ℕ) (w : ℤ) → Edge
between u v w = record { from = u; to = v; weight = w }

-- Of the edges from u to v, which may be several, one weighs w and no other weighs less; none, where there is no such edge.
abbrev pub LeastBetween : Network → (u v : ℕ) → Option ℤ → Type 0
LeastBetween net u v none = (w : ℤ) → ¬ net (between u v w)
LeastBetween net u v (some w) = net (between u v w) × ((x : ℤ) → net (between u v x) → w ≤ℤ x)

-- For each two vertices below n there is such a value, be it none.
abbrev pub HasLeast : (n : ℕ) → Network → Type 0
HasLeast n net = (u v : ℕ) → u < n → v < n → (w : Option ℤ) × LeastBetween net u v w

-- They agree, for each ordered pair of different vertices below n. Nothing is said of edges from a vertex to itself.
abbrev pub SameLeast : (n : ℕ) → Network → Network → Type 0
SameLeast n net net' = (u v : ℕ) → u < n → v < n → u ≢ v → (w : Option ℤ) → LeastBetween net u v w ↔ LeastBetween net' u v w
