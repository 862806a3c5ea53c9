-- Following the marks back from a vertex, and the route that they are (document 02, ask 5).
-- Rests on walks and on a row of edges.
use Rattle.std.specs.Prelude.{◌≡◌, ◌⊎◌, ◌≢◌, List, [], ◌∷◌, ◌++◌, ℕ, zero, suc, ◌-◌, ◌≤◌, ◌<◌, ℤ, pos, negsuc, length, get_or}
use Rattle.graph.specs.Walk.{Edge, Chain, total}
use Rattle.graph.specs.BellmanFord.{network}

-- Where the edge of v's mark begins; v itself, where there is no mark.
abbrev pub origin : (ℕ → Edge) → (v : ℕ) → (mark : ℤ) → ℕ
origin edge v (pos k) = (edge k).from
origin edge v (negsuc k) = v

-- The vertex k marks behind z.
abbrev pub behind : (ℕ → Edge) → (parent : ℕ → ℤ) → (z k : ℕ) → ℕ
behind edge parent z zero = z
behind edge parent z (suc k) = let v = behind edge parent z k in origin edge v (parent v)

-- The marks met on the way, the mark of z first.
abbrev pub shown : (ℕ → Edge) → (parent : ℕ → ℤ) → (z k : ℕ) → ℤ
shown edge parent z k = parent (behind edge parent z k)

-- The edges of some numbers, the last first.
abbrev pub last_first : (ℕ → Edge) → List ℕ → List Edge
last_first edge [] = []
last_first edge (k ∷ ks) = last_first edge ks ++ edge k ∷ []

-- The row has the numbers of at most `most` edges, which, the last first, lead from the source to z with total d, and after them only -1.
pub record Route (edge : ℕ → Edge) (m source z : ℕ) (d : ℤ) (most : ℕ) (row : ℕ → ℤ) : Type 0 where
  pub numbers : List ℕ
  pub few : length numbers ≤ most
  pub below : (k : ℕ) → k < length numbers → get_or numbers k 0 < m
  pub shows : (k : ℕ) → k < length numbers → row k ≡ pos (get_or numbers k 0)
  pub pads : (k : ℕ) → length numbers ≤ k → k < most → row k ≡ negsuc 0
  pub leads : Chain (network edge m) source (last_first edge numbers) z
  pub sums : total (last_first edge numbers) ≡ d

-- What is shown of the way to z, in n - 1 places: the marks followed back from it, from vertex to vertex; for a reached z they are a route to it,
-- of its distance, for the source and for an unreached z nothing but -1.
pub record RouteTo (edge : ℕ → Edge) (m : ℕ) (far : ℤ) (n source : ℕ) (dist parent : ℕ → ℤ) (z : ℕ) (row : ℕ → ℤ) : Type 0 where
  pub inside : (k : ℕ) → behind edge parent z k < n
  pub followed : (k : ℕ) → k < n - 1 → row k ≡ shown edge parent z k
  pub route : dist z ≢ far → Route edge m source z (dist z) (n - 1) row
  pub nothing : (z ≡ source) ⊎ (dist z ≡ far) → (k : ℕ) → k < n - 1 → row k ≡ negsuc 0
