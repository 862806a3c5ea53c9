-- Method 5, method 1 with a destination and the edges of a shortest walk to it: its cells and its plan (document 02, ask 5).
-- Rests on method 1's. "v" runs upward over the n vertices, "i" over the m edges, "k" over the n - 1 places of the route.
use Rattle.std.specs.Prelude.{List, [], ◌∷◌, ◌++◌, ℕ, ◌+◌, ◌*◌, ℤ}
use Rattle.machine.specs.Instruction.{Instruction}
use Rattle.plans.specs.Outline.{middle, vertices, others, edges, Spot, fixed, at, counted, set, copy, equal, moveif, opens, Outline, end, line, run, each, ◌▸◌, joined, start, instructions}
use Rattle.plans.specs.Method1 as Method1
use Rattle.plans.specs.Method1.{v, i, x, solve}
-- The regions: those of method 1; the destination; where each vertex's parent edge begins; and the route.
pub use Rattle.plans.specs.Regions.{region0 as from, region1 as to, region2 as weight, region3 as D, region4 as P, region5 as Y, region6 as X, region7 as Z, region8 as B, region9 as R}

-- Where they begin, and how many cells there are.
abbrev pub starts : (n m : ℕ) → List ℕ
starts n m = Method1.starts n m ++ ((3 * m + 3 * n + 8) ∷ (3 * m + 3 * n + 9) ∷ (3 * m + 4 * n + 9) ∷ [])

abbrev pub cell_count : (n m : ℕ) → ℕ
cell_count n m = 3 * m + 5 * n + 8

-- Where a route's place is counted.
abbrev k : Spot
k = at middle

-- ---- predecessors: where the parent edge of each vertex begins; the vertex itself, where it has no parent

-- Edge i is v's parent.
abbrev pub trace : Outline
trace =
    line (set (x 3) (counted middle))
    ▸ run vertices (equal (x 5) (P v) (x 3) ∷ moveif (B v) (x 5) (from i) ∷ [])
    ▸ end

-- ---- the route: from the destination on, the parent of the vertex in X+2 to place k, and its predecessor to X+1

abbrev pub follow : Outline
follow =
    line (copy (x 2) (x 1))
    ▸ run vertices (equal (x 5) (x 2) (Y v) ∷ moveif (R k) (x 5) (P v) ∷ moveif (x 1) (x 5) (B v) ∷ [])
    ▸ end

-- ---- the plan: method 1's but for its last line, the predecessors, the route, and the verdict opened

abbrev pub show : Outline
show =
    run vertices (copy (B v) (Y v) ∷ [])
    ▸ each middle edges trace
    ▸ line (copy (x 1) (Z (fixed 0)))
    ▸ each middle others follow
    ▸ line (opens (x 7))
    ▸ end

abbrev pub outline : Outline
outline = joined solve show

unfoldable pub plan : {A : Type 0} (name : (region place : ℕ) → A) (far : ℤ) (n m source : ℕ) → List (Instruction A)
plan name far n m source = instructions name far n m source outline start
