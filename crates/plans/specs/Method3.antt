-- Method 3, Bellman-Ford over private edges sorted by to-vertex, by passes that read the distances of the pass before: its cells and its plan
-- (document 02, ask 3). Rests on regions and outlines. "v" runs upward over the n vertices, "i" over the m edges.
use Rattle.std.specs.Prelude.{List, [], ◌∷◌, ℕ, ◌+◌, ◌*◌, ℤ}
use Rattle.machine.specs.Instruction.{Instruction}
use Rattle.plans.specs.Outline.{middle, inner, vertices, others, edges, Spot, fixed, at, after, entry, Cell, small, minus_one, unreached, counted, from_source, Line, set, copy, add, less, equal, both, moveif, opens, Outline, end, line, run, each, again, ◌▸◌, start, instructions}
-- The regions: the edges' from-vertices; B and then their to-vertices, so that the one before edge i's is at place i, and its own after it; their
-- weights (price); distances, parents, the vertices' numbers; the least offer to each vertex and its edge; working cells; which edges begin a
-- segment of equal to-vertices; and whether v is edge i's from-vertex, and its to-vertex, at i*n + v.
pub use Rattle.plans.specs.Regions.{region0 as from, region1 as B, region2 as weight, region3 as D, region4 as P, region5 as Y, region6 as N, region7 as Q, region8 as X, region9 as S, region10 as F, region11 as T}

-- Where they begin, and how many cells there are.
abbrev pub starts : (n m : ℕ) → List ℕ
starts n m =
    let d = 3 * m + 1 in
    let x = d + 5 * n in
    let s = x + 9 in
    0 ∷ m ∷ (2 * m + 1) ∷ d ∷ (d + n) ∷ (d + 2 * n) ∷ (d + 3 * n) ∷ (d + 4 * n) ∷ x ∷ s ∷ (s + m) ∷ (s + m + n * m) ∷ []

abbrev pub cell_count : (n m : ℕ) → ℕ
cell_count n m = 2 * (n * m) + 4 * m + 5 * n + 10

-- The places in a line, and working cell j; edge i's to-vertex.
abbrev v : Spot
v = at inner

abbrev i : Spot
i = at middle

abbrev iv : Spot
iv = entry middle inner

abbrev x : ℕ → Cell
x j = X (fixed j)

abbrev to : Cell
to = B (after middle)

-- ---- edge i: prepared, in a pass, and in the check

-- Whether it begins a segment; whether each v is its from-vertex, and its to-vertex.
abbrev pub prepare : Outline
prepare =
    line (less (S i) (B i) to)
    ▸ run vertices (equal (F iv) (from i) (Y v) ∷ equal (T iv) to (Y v) ∷ [])
    ▸ end

-- The from-vertex's distance to X+1, its offer to X+2, whether it is reached to X+4. X+6 is the least offer of the segment before edge i, and
-- X+5 whether this one is less; it then is the least.
abbrev pub bid : Outline → Outline
bid rest =
    line (copy (x 1) (x 0))
    ▸ run vertices (moveif (x 1) (F iv) (D v) ∷ [])
    ▸ line (add (x 2) (x 1) (weight i))
    ▸ line (less (x 4) (x 1) (x 0))
    ▸ line (moveif (x 6) (S i) (x 0))
    ▸ line (less (x 5) (x 2) (x 6))
    ▸ line (both (x 5) (x 5) (x 4))
    ▸ line (moveif (x 6) (x 5) (x 2))
    ▸ rest

-- With its edge to X+7, and both to the to-vertex.
abbrev pub sweep : Outline
sweep =
    bid
    ▸ line (set (x 3) (counted middle))
    ▸ line (moveif (x 7) (x 5) (x 3))
    ▸ run vertices (moveif (N v) (T iv) (x 6) ∷ moveif (Q v) (T iv) (x 7) ∷ [])
    ▸ end

abbrev pub probe : Outline
probe = bid ▸ run vertices (moveif (N v) (T iv) (x 6) ∷ []) ▸ end

-- ---- vertex v: its least offer taken on a strict gain, or looked at

abbrev pub take : List Line
take = less (x 5) (N v) (D v) ∷ moveif (D v) (x 5) (N v) ∷ moveif (P v) (x 5) (Q v) ∷ []

abbrev pub test : List Line
test = less (x 5) (N v) (D v) ∷ moveif (x 8) (x 5) (x 5) ∷ []

-- ---- the plan: the opening, the preparation, n-1 passes, the check, and the verdict opened

abbrev pub outline : Outline
outline =
    run vertices
    (set (Y v) (counted inner) ∷ set (D v) from_source ∷ set (P v) minus_one ∷ set (N v) unreached ∷ [])
    ▸ line (set (x 0) unreached)
    ▸ line (set (x 8) (small 0))
    ▸ line (set (B (fixed 0)) minus_one)
    ▸ each middle edges prepare
    ▸ again others (each middle edges sweep ▸ run vertices take ▸ end)
    ▸ each middle edges probe
    ▸ run vertices test
    ▸ line (opens (x 8))
    ▸ end

unfoldable pub plan : {A : Type 0} (name : (region place : ℕ) → A) (far : ℤ) (n m source : ℕ) → List (Instruction A)
plan name far n m source = instructions name far n m source outline start
