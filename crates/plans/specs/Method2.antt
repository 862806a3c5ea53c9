-- Method 2, Dijkstra over a private table: its cells and its plan (document 01, "Plan of method 2").
-- Rests on regions and outlines. "v" and "j" run upward over the n vertices; "j" is the inner counter where both run.
use Rattle.std.specs.Prelude.{List, [], ◌∷◌, ℕ, ◌+◌, ◌*◌, ℤ}
use Rattle.machine.specs.Instruction.{Instruction}
use Rattle.plans.specs.Outline.{middle, inner, vertices, Spot, fixed, at, entry, Cell, small, minus_one, unreached, counted, from_source, Line, set, copy, add, less, equal, both, moveif, Outline, end, line, run, each, again, ◌▸◌, start, instructions}
-- The regions: the table by rows, distances, parents, the vertices' numbers, which are open, the chosen row, and working cells.
pub use Rattle.plans.specs.Regions.{region0 as U, region1 as D, region2 as P, region3 as Y, region4 as O, region5 as R, region6 as X}

-- Where they begin, and how many cells there are.
abbrev pub starts : (n : ℕ) → List ℕ
starts n = 0 ∷ (n * n) ∷ (n * n + n) ∷ (n * n + 2 * n) ∷ (n * n + 3 * n) ∷ (n * n + 4 * n) ∷ (n * n + 5 * n) ∷ []

abbrev pub cell_count : (n : ℕ) → ℕ
cell_count n = n * n + 5 * n + 6

-- The places in a line: v where no j runs in it, and j; v where j runs in it, and place v*n + j of the table;
-- and working cell k.
abbrev v : Spot
v = at inner

abbrev j : Spot
j = at inner

abbrev v₁ : Spot
v₁ = at middle

abbrev vj : Spot
vj = entry middle inner

abbrev x : ℕ → Cell
x k = X (fixed k)

-- ---- a turn

-- The least distance of an open vertex to X+1, and that vertex to X+3.
abbrev pub choose : List Line
choose =
    less (x 5) (D v) (x 1)
    ∷ both (x 5) (x 5) (O v)
    ∷ moveif (x 1) (x 5) (D v)
    ∷ moveif (x 3) (x 5) (Y v)
    ∷ []

-- v's row to R if v is the chosen vertex, which is then closed.
abbrev pub fetch : Outline
fetch =
    line (equal (x 5) (x 3) (Y v₁))
    ▸ line (moveif (O v₁) (x 5) (x 4))
    ▸ run vertices (moveif (R j) (x 5) (U vj) ∷ [])
    ▸ end

-- The total by the chosen vertex to X+2, taken where it is less.
abbrev pub relax : List Line
relax =
    add (x 2) (x 1) (R j)
    ∷ less (x 5) (x 2) (D j)
    ∷ moveif (D j) (x 5) (x 2)
    ∷ moveif (P j) (x 5) (x 3)
    ∷ []

abbrev pub turn : Outline
turn =
    line (copy (x 1) (x 0))
    ▸ line (set (x 3) minus_one)
    ▸ run vertices choose
    ▸ run vertices (copy (R j) (x 0) ∷ [])
    ▸ each middle vertices fetch
    ▸ run vertices relax
    ▸ end

-- ---- the plan: the opening and n turns

abbrev pub outline : Outline
outline =
    run vertices
    (set (Y v) (counted inner) ∷ set (D v) from_source ∷ set (P v) minus_one ∷ set (O v) (small 1) ∷ [])
    ▸ line (set (x 0) unreached)
    ▸ line (set (x 4) (small 0))
    ▸ again vertices turn
    ▸ end

unfoldable pub plan : {A : Type 0} (name : (region place : ℕ) → A) (far : ℤ) (n source : ℕ) → List (Instruction A)
plan name far n source = instructions name far n 0 source outline start
