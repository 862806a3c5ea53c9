-- What distances and parents have to be, for every method: demand 2 of document 01 where there is no negative cycle.
-- Rests on walks.
use Rattle.std.specs.Prelude.{◌≡◌, ◌↔◌, ◌≢◌, List, [], ◌∷◌, ◌++◌, ℕ, ◌<◌, ℤ, pos, negsuc}
use Rattle.graph.specs.Walk.{Edge, Network, Walk, Least}

-- What a mark names: `Names k e`, that the mark k stands for the edge e, is a parameter. (In method 1 k is e's number, in method 2 its from-vertex.)
abbrev pub Naming : Type 1
Naming = ℕ → Edge → Type 0

-- Following the marks from v arrives at the source.
pub data Leads (net : Network) (Names : Naming) (source : ℕ) (parent : ℕ → ℤ) : ℕ → Type 0 where
  there : Leads net Names source parent source
  back : (k : ℕ) (e : Edge) → net e → Names k e → parent e.to ≡ pos k → Leads net Names source parent e.from → Leads net Names source parent e.to

-- The mark of v names the last edge of a least walk to v.
pub record LastEdge (net : Network) (Names : Naming) (source : ℕ) (dist parent : ℕ → ℤ) (v : ℕ) : Type 0 where
  pub mark : ℕ
  pub marked : parent v ≡ pos mark
  pub edge : Edge
  pub named : Names mark edge
  pub front : List Edge
  pub least : Least net source v (dist v) (front ++ edge ∷ [])

-- Least totals over all walks from the source to the vertices below n; `far` marks an unreached one.
pub record Distances (net : Network) (far : ℤ) (n source : ℕ) (dist : ℕ → ℤ) : Type 0 where
  pub reached : (v : ℕ) → v < n → dist v ≢ far → (es : List Edge) × Least net source v (dist v) es
  pub unreached : (v : ℕ) → v < n → (dist v ≡ far) ↔ ¬ Walk net source v

-- Parents to those distances: on least walks, leading back to the source; -1 is the parent of the source and of unreached vertices.
pub record Parents (net : Network) (Names : Naming) (far : ℤ) (n source : ℕ) (dist parent : ℕ → ℤ) : Type 0 where
  pub last_edge : (v : ℕ) → v < n → dist v ≢ far → v ≢ source → LastEdge net Names source dist parent v
  pub leads : (v : ℕ) → v < n → dist v ≢ far → Leads net Names source parent v
  pub source_mark : parent source ≡ negsuc 0
  pub unreached_mark : (v : ℕ) → v < n → dist v ≡ far → parent v ≡ negsuc 0

-- Shortest walks from the source: their totals, and parents along them.
pub record Shortest (net : Network) (Names : Naming) (far : ℤ) (n source : ℕ) (dist parent : ℕ → ℤ) : Type 0 where
  pub distances : Distances net far n source dist
  pub parents : Parents net Names far n source dist parent
