-- Bellman-Ford with Jacobi passes, each reading the state before it alone (document 02, ask 3); the rule of these passes in words; and the sweep
-- that finds the least offers where edges are sorted by to-vertex. Rests on Bellman-Ford's states and offers.
use Rattle.std.specs.Prelude.{◌≡◌, ◌≢◌, Bool, true, false, cond, ◌&&◌, ◌||◌, List, ℕ, zero, suc, ◌-◌, ◌<◌, ◌≤◌, ltb, eqb, ℤ, pos, negsuc, length, ◌≤ℤ◌, ◌<ℤ◌}
use Rattle.std.specs.Int.Signed.{lt_z}
use Rattle.graph.specs.Walk.{Edge, Network, Chain, total}
use Rattle.graph.specs.BellmanFord.{State, start, offer}

module _ (edge : ℕ → Edge) (far : ℤ) where
  -- Edge i's from-vertex is reached, and its offer is less than x.
  abbrev pub undercuts : ℕ → State → ℤ → Bool
  undercuts i st x = lt_z (st.dist (edge i).from) far && lt_z (offer edge i st) x

  -- The least offer to v of the edges below i, or `far` where none is less.
  abbrev pub best : ℕ → State → ℕ → ℤ
  best zero st v = far
  best (suc i) st v = cond (undercuts i st (best i st v) && eqb (edge i).to v) (offer edge i st) (best i st v)

  -- The first edge that makes it, or -1.
  abbrev pub who : ℕ → State → ℕ → ℤ
  who zero st v = negsuc 0
  who (suc i) st v = cond (undercuts i st (best i st v) && eqb (edge i).to v) (pos i) (who i st v)

  -- Whether the least offer of all m edges is a gain to v.
  abbrev pub gains : ℕ → State → ℕ → Bool
  gains m st v = lt_z (best m st v) (st.dist v)

  abbrev pub pass : ℕ → State → State
  pass m st =
      record {
        dist = λ v. cond (gains m st v) (best m st v) (st.dist v);
        parent = λ v. cond (gains m st v) (who m st v) (st.parent v);
      }

  abbrev pub passes : ℕ → ℕ → State → State
  passes m zero st = st
  passes m (suc p) st = pass m (passes m p st)

  abbrev pub jacobi : ℕ → ℕ → ℕ → State
  jacobi n m source = passes m (n - 1) (start far source)

  -- Some vertex below k can still gain.
  abbrev pub slack : ℕ → ℕ → State → Bool
  slack m zero st = false
  slack m (suc k) st = slack m k st || gains m st k

-- What a pass from a to b does to v, in words: of the offers to it from reached vertices it takes the least, by the lowest edge among equal ones,
-- if that is a strict gain.
pub data Rule (edge : ℕ → Edge) (m : ℕ) (far : ℤ) (a b : State) (v : ℕ) : Type 0 where
  gained : (i : ℕ) → i < m → (edge i).to ≡ v → a.dist (edge i).from <ℤ far →
      ((j : ℕ) → j < m → (edge j).to ≡ v → a.dist (edge j).from <ℤ far → offer edge i a ≤ℤ offer edge j a) →
      ((j : ℕ) → j < i → (edge j).to ≡ v → a.dist (edge j).from <ℤ far → offer edge i a <ℤ offer edge j a) →
      offer edge i a <ℤ a.dist v → b.dist v ≡ offer edge i a → b.parent v ≡ pos i → Rule edge m far a b v
  stayed : ((j : ℕ) → j < m → (edge j).to ≡ v → a.dist (edge j).from <ℤ far → a.dist v ≤ℤ offer edge j a) →
      b.dist v ≡ a.dist v → b.parent v ≡ a.parent v → Rule edge m far a b v

-- Distances and parents of n - 1 such passes, each from the state that the one before it left; at first the source alone is reached.
pub record Synchronous (edge : ℕ → Edge) (m : ℕ) (far : ℤ) (n source : ℕ) (dist parent : ℕ → ℤ) : Type 0 where
  pub state : (passes : ℕ) → State
  pub begins : (v : ℕ) → v < n → ((state 0).dist v ≡ (start far source).dist v) × ((state 0).parent v ≡ negsuc 0)
  pub passes : (p : ℕ) → p < n - 1 → (v : ℕ) → v < n → Rule edge m far (state p) (state (suc p)) v
  pub ends : (v : ℕ) → v < n → (dist v ≡ (state (n - 1)).dist v) × (parent v ≡ (state (n - 1)).parent v)

-- d is the least total of the walks from u to v of at most p edges, `far` where there is none.
pub record LeastUpto (net : Network) (far : ℤ) (p u v : ℕ) (d : ℤ) : Type 0 where
  pub reached : d ≢ far → (es : List Edge) × Chain net u es v × (length es ≤ p) × (total es ≡ d)
  pub least : (es : List Edge) → Chain net u es v → length es ≤ p → (d ≢ far) × (d ≤ℤ total es)

-- ---- the sweep over segments of equal to-vertices

-- The least offer of the segment so far and its edge; and those to each vertex. Where an offer is `far`, its edge says nothing.
pub record Sweep : Type 0 where
  pub least : ℤ
  pub edge : ℤ
  pub offers : ℕ → ℤ
  pub edges : ℕ → ℤ

abbrev pub Sorted : (ℕ → Edge) → ℕ → Type 0
Sorted edge m = (i : ℕ) → suc i < m → (edge i).to ≤ (edge (suc i)).to

-- Edge i begins a segment.
abbrev pub begins : (ℕ → Edge) → ℕ → Bool
begins edge zero = true
begins edge (suc i) = ltb (edge i).to (edge (suc i)).to

-- The least offer of edge i's segment before it, where x was the least until now.
abbrev pub before : (ℕ → Edge) → ℤ → ℕ → ℤ → ℤ
before edge far i x = cond (begins edge i) far x

module _ (edge : ℕ → Edge) (far : ℤ) (st : State) where
  abbrev pub next : ℕ → Sweep → Sweep
  next i w =
      let x = before edge far i w.least in
      let d = cond (undercuts edge far i st x) (offer edge i st) x in
      let k = cond (undercuts edge far i st x) (pos i) w.edge in
      record {
        least = d;
        edge = k;
        offers = λ v. cond (eqb (edge i).to v) d (w.offers v);
        edges = λ v. cond (eqb (edge i).to v) k (w.edges v);
      }

  -- The edges below i, in order.
  abbrev pub sweep : ℕ → Sweep → Sweep
  sweep zero w = w
  sweep (suc i) w = next i (sweep i w)
