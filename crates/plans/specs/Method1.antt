-- Method 1, Bellman-Ford over private edges: its cells and its plan (document 01, "Plan of method 1").
-- Rests on regions and outlines. "v" runs upward over the n vertices, "i" over the m edges.
use Rattle.std.specs.Prelude.{List, [], ◌∷◌, ℕ, ◌+◌, ◌*◌, ℤ}
use Rattle.machine.specs.Instruction.{Instruction}
use Rattle.plans.specs.Outline.{middle, inner, vertices, others, edges, Spot, fixed, at, Cell, small, minus_one, unreached, counted, from_source, Line, set, copy, add, less, equal, both, moveif, opens, Outline, end, line, run, each, again, ◌▸◌, joined, start, instructions}
-- The regions: the edges' ends and weights (price), distances, parents, the vertices' numbers, and working cells.
pub use Rattle.plans.specs.Regions.{region0 as from, region1 as to, region2 as weight, region3 as D, region4 as P, region5 as Y, region6 as X}

-- Where they begin, and how many cells there are.
abbrev pub starts : (n m : ℕ) → List ℕ
starts n m = 0 ∷ m ∷ (2 * m) ∷ (3 * m) ∷ (3 * m + n) ∷ (3 * m + 2 * n) ∷ (3 * m + 3 * n) ∷ []

abbrev pub cell_count : (n m : ℕ) → ℕ
cell_count n m = 3 * m + 3 * n + 8

-- The places in a line, and working cell j.
abbrev pub v : Spot
v = at inner

abbrev pub i : Spot
i = at middle

abbrev pub x : ℕ → Cell
x j = X (fixed j)

-- ---- edge i, in a pass and in the check

-- The from-vertex's distance to X+1, then the new total to X+2, and whether the from-vertex is reached to X+4.
abbrev pub gather : Outline → Outline
gather rest =
    line (copy (x 1) (x 0))
    ▸ run vertices (equal (x 5) (from i) (Y v) ∷ moveif (x 1) (x 5) (D v) ∷ [])
    ▸ line (add (x 2) (x 1) (weight i))
    ▸ line (less (x 4) (x 1) (x 0))
    ▸ rest

-- Whether v is the to-vertex and gains, to X+6; then `rest`.
abbrev pub gains : List Line → List Line
gains rest =
    equal (x 5) (to i) (Y v)
    ∷ less (x 6) (x 2) (D v)
    ∷ both (x 6) (x 6) (x 4)
    ∷ both (x 6) (x 6) (x 5)
    ∷ rest

abbrev pub update : List Line
update = gains (moveif (D v) (x 6) (x 2) ∷ moveif (P v) (x 6) (x 3) ∷ [])

abbrev pub test : List Line
test = gains (moveif (x 7) (x 6) (x 6) ∷ [])

abbrev pub relax : Outline
relax = gather ▸ line (set (x 3) (counted middle)) ▸ run vertices update ▸ end

abbrev pub check : Outline
check = gather ▸ run vertices test ▸ end

-- ---- the plan: the opening, n-1 passes over all edges and the check, which method 5 shares; then the verdict opened

abbrev pub solve : Outline
solve =
    run vertices (set (Y v) (counted inner) ∷ set (D v) from_source ∷ set (P v) minus_one ∷ [])
    ▸ line (set (x 0) unreached)
    ▸ line (set (x 7) (small 0))
    ▸ again others (each middle edges relax ▸ end)
    ▸ each middle edges check
    ▸ end

abbrev pub outline : Outline
outline = joined solve (line (opens (x 7)) end)

unfoldable pub plan : {A : Type 0} (name : (region place : ℕ) → A) (far : ℤ) (n m source : ℕ) → List (Instruction A)
plan name far n m source = instructions name far n m source outline start
