-- Dijkstra over an n by n table of natural weights, in which `far` marks no edge, as functions on distances, parents and open vertices.
-- Rests on walks and on what a mark names.
use Rattle.std.specs.Prelude.{◌≡◌, ◌≢◌, Bool, true, false, cond, ◌&&◌, ℕ, zero, suc, ◌+◌, ◌<◌, ltb, eqb, ℤ, pos, negsuc}
use Rattle.graph.specs.Walk.{Network}
use Rattle.graph.specs.Shortest.{Naming}

abbrev pub table_network : ℕ → ℕ → (ℕ → ℕ → ℕ) → Network
table_network far n table e =
    (e.from < n) × (e.to < n) × (table e.from e.to ≢ far) × (e.weight ≡ pos (table e.from e.to))

-- A mark is the vertex that the edge begins at.
abbrev pub from_vertex : Naming
from_vertex k e = e.from ≡ k

pub record State : Type 0 where
  pub dist : ℕ → ℕ
  pub parent : ℕ → ℤ
  pub unseen : ℕ → Bool

abbrev pub begin : ℕ → ℕ → State
begin far source = record { dist = λ v. cond (eqb v source) 0 far; parent = λ v. negsuc 0; unseen = λ v. true }

-- Vertex k is open, and nearer than b.
abbrev pub nearer : ℕ → State → ℕ → Bool
nearer b st k = ltb (st.dist k) b && st.unseen k

-- The least distance of an open vertex below k, or `far` where no open one is nearer.
abbrev pub best : ℕ → State → ℕ → ℕ
best far st zero = far
best far st (suc k) = cond (nearer (best far st k) st k) (st.dist k) (best far st k)

-- The first such vertex, or -1.
abbrev pub who : ℕ → State → ℕ → ℤ
who far st zero = negsuc 0
who far st (suc k) = cond (nearer (best far st k) st k) (pos k) (who far st k)

-- The table's row of a vertex; of none, `far` everywhere.
abbrev pub row_of : ℕ → (ℕ → ℕ → ℕ) → ℤ → ℕ → ℕ
row_of far table (pos u) j = table u j
row_of far table (negsuc u) j = far

abbrev pub is_vertex : ℤ → ℕ → Bool
is_vertex (pos u) v = eqb u v
is_vertex (negsuc u) v = false

-- The vertex w at distance b is closed, and its row r relaxed.
abbrev pub settle : ℕ → ℤ → (ℕ → ℕ) → State → State
settle b w r st =
    record {
      dist = λ j. cond (ltb (b + r j) (st.dist j)) (b + r j) (st.dist j);
      parent = λ j. cond (ltb (b + r j) (st.dist j)) w (st.parent j);
      unseen = λ v. cond (is_vertex w v) false (st.unseen v);
    }

abbrev pub turn : ℕ → (ℕ → ℕ → ℕ) → ℕ → State → State
turn far table n st = settle (best far st n) (who far st n) (row_of far table (who far st n)) st

-- t turns from the source.
abbrev pub turns : ℕ → (ℕ → ℕ → ℕ) → ℕ → ℕ → ℕ → State
turns far table n source zero = begin far source
turns far table n source (suc t) = turn far table n (turns far table n source t)
