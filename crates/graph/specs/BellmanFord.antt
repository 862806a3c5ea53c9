-- Bellman-Ford over a row of edges, as functions on distances and parents: each pass relaxes the edges in order and in place.
-- Rests on walks and on what a mark names.
use Rattle.std.specs.Prelude.{◌≡◌, ◌⊎◌, Bool, false, cond, ◌&&◌, ◌||◌, ℕ, zero, suc, ◌-◌, ◌≤◌, ◌<◌, eqb, ℤ, pos, negsuc, nat_abs, ◌+ℤ◌}
use Rattle.std.specs.Int.Signed.{lt_z}
use Rattle.graph.specs.Walk.{Edge, Network}
use Rattle.graph.specs.Shortest.{Naming}

-- The first m of a row of edges.
abbrev pub network : (ℕ → Edge) → ℕ → Network
network edge m e = (i : ℕ) × (i < m) × (e ≡ edge i)

-- A mark is an edge's number.
abbrev pub numbered : (ℕ → Edge) → ℕ → Naming
numbered edge m k e = (k < m) × (e ≡ edge k)

pub record State : Type 0 where
  pub dist : ℕ → ℤ
  pub parent : ℕ → ℤ

abbrev pub start : ℤ → ℕ → State
start far source = record { dist = λ v. cond (eqb v source) (pos 0) far; parent = λ v. negsuc 0 }

-- What edge i offers its to-vertex.
abbrev pub offer : (ℕ → Edge) → ℕ → State → ℤ
offer edge i st = st.dist (edge i).from +ℤ (edge i).weight

module _ (edge : ℕ → Edge) (far : ℤ) where
  -- Whether that is a gain: the from-vertex is reached, and the offer is less than the to-vertex has.
  abbrev pub gain : ℕ → State → Bool
  gain i st = lt_z (st.dist (edge i).from) far && lt_z (offer edge i st) (st.dist (edge i).to)

  abbrev pub relaxed : ℕ → State → State
  relaxed i st =
      record {
        dist = λ v. cond (gain i st && eqb (edge i).to v) (offer edge i st) (st.dist v);
        parent = λ v. cond (gain i st && eqb (edge i).to v) (pos i) (st.parent v);
      }

  -- The edges below i, in order.
  abbrev pub pass : ℕ → State → State
  pass zero st = st
  pass (suc i) st = relaxed i (pass i st)

  -- All m edges, p times.
  abbrev pub passes : ℕ → ℕ → State → State
  passes m zero st = st
  passes m (suc p) st = pass m (passes m p st)

  abbrev pub bellman_ford : ℕ → ℕ → ℕ → State
  bellman_ford n m source = passes m (n - 1) (start far source)

  -- Some edge below i can still be relaxed.
  abbrev pub slack : ℕ → State → Bool
  slack zero st = false
  slack (suc i) st = slack i st || gain i st

-- Each distance is far, or between -B and B.
abbrev pub Within : ℤ → ℕ → State → Type 0
Within far B st = (v : ℕ) → (st.dist v ≡ far) ⊎ (nat_abs (st.dist v) ≤ B)
