-- Method 4, Floyd-Warshall over private edges: its cells and its plan (document 02, ask 8).
-- Rests on regions and outlines. "v", "i" and "j" run upward over the n vertices, "l" over the m edges, "k" over the n stages; "j" is the
-- inner counter, "i" the middle one, "l" and "k" the outer one.
use Rattle.std.specs.Prelude.{List, [], ◌∷◌, ℕ, ◌+◌, ◌*◌, ℤ}
use Rattle.machine.specs.Instruction.{Instruction}
use Rattle.plans.specs.Outline.{outer, middle, inner, vertices, edges, times, Spot, fixed, at, entry, Cell, small, unreached, counted, Line, set, copy, add, less, equal, both, moveif, opens, Outline, end, line, run, each, again, ◌▸◌, start, instructions}
-- The regions: the edges' ends and weights (price), the table by rows, a column and a row of it, the vertices' numbers, and working cells.
pub use Rattle.plans.specs.Regions.{region0 as from, region1 as to, region2 as weight, region3 as D, region4 as C, region5 as R, region6 as Y, region7 as X}

-- Where they begin, and how many cells there are.
abbrev pub starts : (n m : ℕ) → List ℕ
starts n m = 0 ∷ m ∷ (2 * m) ∷ (3 * m) ∷ (3 * m + n * n) ∷ (3 * m + n * n + n) ∷ (3 * m + n * n + 2 * n) ∷ (3 * m + n * n + 3 * n) ∷ []

abbrev pub cell_count : (n m : ℕ) → ℕ
cell_count n m = 3 * m + n * n + 3 * n + 6

-- The places in a line: v, j, i, l; of the table the entries of i and j, of v and v, of v in column k and of v in row k; and working cell p.
abbrev v : Spot
v = at inner

abbrev j : Spot
j = at inner

abbrev i : Spot
i = at middle

abbrev l : Spot
l = at outer

abbrev ij : Spot
ij = entry middle inner

abbrev vv : Spot
vv = entry inner inner

abbrev vk : Spot
vk = entry inner outer

abbrev kv : Spot
kv = entry outer inner

abbrev x : ℕ → Cell
x p = X (fixed p)

-- ---- the update: each entry, or the sum of what its column and its row are given where that is less

abbrev pub lower : List Line
lower =
    add (x 3) (C i) (R j)
    ∷ less (x 4) (x 3) (D ij)
    ∷ moveif (D ij) (x 4) (x 3)
    ∷ []

abbrev pub update : Outline
update = each middle vertices (run vertices lower ▸ end) ▸ end

-- ---- edge l: 0 in the column at its from-vertex, its weight in the row at its to-vertex, HIGH elsewhere

abbrev pub lay : Outline
lay =
    run vertices
    (copy (C v) (x 1)
    ∷ equal (x 4) (from l) (Y v)
    ∷ moveif (C v) (x 4) (x 2)
    ∷ copy (R v) (x 1)
    ∷ equal (x 4) (to l) (Y v)
    ∷ moveif (R v) (x 4) (weight l)
    ∷ [])
    ▸ update

-- ---- stage k: the table's own column and row k, copied, so that the update reads what the stage before left

abbrev pub stage : Outline
stage = run vertices (copy (C v) (D vk) ∷ copy (R v) (D kv) ∷ []) ▸ update

-- ---- the plan: HIGH, which stands for no walk yet, is FAR doubled 20 times; edges, stages, negative entries of the diagonal counted, HIGH turned
-- to FAR, and the verdict opened

abbrev pub outline : Outline
outline =
    run vertices (set (Y v) (counted inner) ∷ [])
    ▸ line (set (x 0) unreached)
    ▸ line (set (x 1) unreached)
    ▸ again (times 20) (line (add (x 1) (x 1) (x 1)) ▸ end)
    ▸ line (set (x 2) (small 0))
    ▸ line (set (x 5) (small 0))
    ▸ each middle vertices (run vertices (copy (D ij) (x 1) ∷ []) ▸ end)
    ▸ run vertices (copy (D vv) (x 2) ∷ [])
    ▸ each outer edges lay
    ▸ each outer vertices stage
    ▸ run vertices (less (x 4) (D vv) (x 2) ∷ add (x 5) (x 5) (x 4) ∷ [])
    ▸ line (both (x 5) (x 5) (x 5))
    ▸ each middle vertices (run vertices (less (x 4) (x 0) (D ij) ∷ moveif (D ij) (x 4) (x 0) ∷ []) ▸ end)
    ▸ line (opens (x 5))
    ▸ end

unfoldable pub plan : {A : Type 0} (name : (region place : ℕ) → A) (far : ℤ) (n m : ℕ) → List (Instruction A)
plan name far n m = instructions name far n m 0 outline start
