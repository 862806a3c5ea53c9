-- Two networks that differ in their weights alone, edge by edge: each weight so many times as much (document 02, ask 7: finer money), or more by
-- the number of its from-vertex less that of its to-vertex (ask 9: moved fees). Rests on walks and on what a mark names.
use Rattle.std.specs.Prelude.{◌≡◌, ◌≢◌, ℕ, ◌<◌, ℤ, pos, ◌+ℤ◌, ◌-ℤ◌, ◌*ℤ◌}
use Rattle.graph.specs.Walk.{Edge, Network}
use Rattle.graph.specs.Shortest.{Naming}

-- e' has the ends of e, and weighs f e.
pub record Weighed (f : Edge → ℤ) (e e' : Edge) : Type 0 where
  pub begins : e'.from ≡ e.from
  pub ends : e'.to ≡ e.to
  pub weighs : e'.weight ≡ f e

-- Each edge of either network has its like in the other.
pub record Reweighed (f : Edge → ℤ) (net net' : Network) : Type 0 where
  pub forth : (e : Edge) → net e → (e' : Edge) × net' e' × Weighed f e e'
  pub back : (e' : Edge) → net' e' → (e : Edge) × net e × Weighed f e e'

-- A mark that names an edge names its like.
abbrev pub Renamed : (f : Edge → ℤ) (Names Names' : Naming) → Type 0
Renamed f Names Names' = (k : ℕ) (e e' : Edge) → Weighed f e e' → Names k e → Names' k e'

-- Each weight c times as much.
abbrev pub scaled : (c : ℕ) → Edge → ℤ
scaled c e = pos c *ℤ e.weight

-- A fee of each vertex is put on the edges that leave it, and taken off those that arrive.
abbrev pub moved : (fee : ℕ → ℤ) → Edge → ℤ
moved fee e = e.weight +ℤ (fee e.from -ℤ fee e.to)

-- The mark of an unreached vertex becomes another, and each distance is turned by G, which makes no mark of it.
pub record Becomes (G : ℕ → ℤ → ℤ) (far far' : ℤ) (n : ℕ) (dist dist' : ℕ → ℤ) : Type 0 where
  pub blank : (v : ℕ) → v < n → dist v ≡ far → dist' v ≡ far'
  pub each : (v : ℕ) → v < n → dist v ≢ far → dist' v ≡ G v (dist v)
  pub apart : (v : ℕ) → v < n → dist v ≢ far → dist' v ≢ far'
