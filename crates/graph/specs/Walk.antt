-- Networks and walks (document 01, "Yards, lanes and totals"). A walk may use an edge any number of times.
-- Rests on the toolchain's library alone.
use Rattle.std.specs.Prelude.{◌≡◌, List, [], ◌∷◌, ℕ, ◌<◌, ℤ, pos, ◌+ℤ◌, ◌≤ℤ◌, ◌<ℤ◌}

-- A lane, with its from-yard, to-yard and price.
pub record Edge : Type 0 where
  pub from : ℕ
  pub to : ℕ
  pub weight : ℤ

-- Which edges there are.
abbrev pub Network : Type 1
Network = Edge → Type 0

-- The edges lead from u to v: each begins where the one before it ends.
abbrev pub Chain : Network → ℕ → List Edge → ℕ → Type 0
Chain net u [] v = u ≡ v
Chain net u (e ∷ es) v = net e × (e.from ≡ u) × Chain net e.to es v

-- A walk's total; the walk of no edges has total 0.
abbrev pub total : List Edge → ℤ
total [] = pos 0
total (e ∷ es) = e.weight +ℤ total es

abbrev pub Walk : Network → ℕ → ℕ → Type 0
Walk net u v = (es : List Edge) × Chain net u es v

-- The walk `es` from u to v has total d, and no walk from u to v, of any length, has less.
pub record Least (net : Network) (u v : ℕ) (d : ℤ) (es : List Edge) : Type 0 where
  pub leads : Chain net u es v
  pub sums : total es ≡ d
  pub least : (fs : List Edge) → Chain net u fs v → d ≤ℤ total fs

-- A loss circle: a closed walk of negative total that some walk from s reaches.
pub record NegativeCycle (net : Network) (s : ℕ) : Type 0 where
  pub at : ℕ
  pub lead : List Edge
  pub leads : Chain net s lead at
  pub cycle : List Edge
  pub closed : Chain net at cycle at
  pub negative : total cycle <ℤ pos 0

-- Each edge's ends are vertices below n.
abbrev pub Below : Network → ℕ → Type 0
Below net n = (e : Edge) → net e → (e.from < n) × (e.to < n)
