-- Floyd-Warshall over a row of edges (source document 000), as functions on tables: the edges one by one, then each vertex in turn as pivot.
-- Rests on walks.
use Rattle.std.specs.Prelude.{Bool, false, cond, ◌||◌, ℕ, zero, suc, ◌+◌, ◌-◌, ◌*◌, ◌<◌, eqb, ℤ, pos, ◌+ℤ◌}
use Rattle.std.specs.Int.Signed.{lt_z}
use Rattle.graph.specs.Walk.{Edge, Network, NegativeCycle}

-- What a walk from i to j costs.
abbrev pub Table : Type 0
Table = ℕ → ℕ → ℤ

-- Each entry, or the sum of what its column and its row are given where that is less.
abbrev pub update : (column row : ℕ → ℤ) → Table → Table
update c r d i j = cond (lt_z (c i +ℤ r j) (d i j)) (c i +ℤ r j) (d i j)

-- `high` stands where no walk is known.
module _ (edge : ℕ → Edge) (high : ℤ) where
  abbrev pub start : Table
  start i j = cond (eqb i j) (pos 0) high

  abbrev pub column : ℕ → ℕ → ℤ
  column l i = cond (eqb (edge l).from i) (pos 0) high

  abbrev pub row : ℕ → ℕ → ℤ
  row l j = cond (eqb (edge l).to j) (edge l).weight high

  -- The first l edges, in order.
  abbrev pub edges : ℕ → Table
  edges zero = start
  edges (suc l) = update (column l) (row l) (edges l)

  -- All m edges, then the first k vertices as pivots.
  abbrev pub stages : ℕ → ℕ → Table
  stages m zero = edges m
  stages m (suc k) = update (λ i. stages m k i k) (λ j. stages m k k j) (stages m k)

  abbrev pub floyd : (n m : ℕ) → Table
  floyd n m = stages m n

-- A negative cycle anywhere: from some vertex a walk leads onto one.
abbrev pub Anywhere : Network → ℕ → Type 0
Anywhere net n = (s : ℕ) × (s < n) × NegativeCycle net s

-- Some entry of the diagonal below n is negative.
abbrev pub negative : ℕ → Table → Bool
negative zero d = false
negative (suc v) d = negative v d || lt_z (d v v) (pos 0)

-- What is over `far` becomes `far`.
abbrev pub marked : ℤ → Table → Table
marked far d i j = cond (lt_z far (d i j)) far (d i j)

-- x doubled k times: what HIGH is of FAR, and how far from 0, or below HIGH, k stages can take entries that lay x from there.
unfoldable pub doubled : (x k : ℕ) → ℕ
doubled x zero = x
doubled x (suc k) = doubled x k + doubled x k

-- Weights of at most `limit` either way: a walk of fewer than n edges stays below `far`, and what starts from `high` stays above it.
pub record Room (n limit far high : ℕ) : Type 0 where
  pub near : (n - 1) * limit < far
  pub apart : far + doubled limit n < high
