-- In every run of Bellman-Ford, with a negative cycle too, a mark is -1 or the number of an edge.
-- Rests on tests.
use mathlib.Core.Path.{◌≡◌, refl}
use mathlib.Core.Logic.{◌⊎◌, inl, inr}
use mathlib.Core.Bool.{◌&&◌}
use Prim.Native.Nat.{ℕ, zero, suc, ◌<◌, ◌≤◌}
use native.Mathlib.Omega.{arith}
use lib.Dec.{eqb}
use lib.IntN.{ℤ, pos, negsuc}
use Rattle.lists.proofs.Test.{by_test}
use Rattle.graph.specs.Walk.{Edge}
use Rattle.graph.specs.BellmanFord.{State, start, gain, pass, passes}

-- No mark, or the number of one of m edges.
abbrev pub Mark : (m : ℕ) → ℤ → Type 0
Mark m z = (z ≡ negsuc 0) ⊎ ((k : ℕ) × (k < m) × (z ≡ pos k))

module _ (edge : ℕ → Edge) (far : ℤ) (m : ℕ) where
  pass_marks : (a : State) → ((v : ℕ) → Mark m (a.parent v)) → (i : ℕ) → i ≤ m → (v : ℕ) → Mark m ((pass edge far i a).parent v)
  pass_marks a h zero l v = h v
  pass_marks a h (suc i) l v =
      let old = pass_marks a h i (omega arith) v in
      by_test (gain edge far i (pass edge far i a) && eqb (edge i).to v) (λ e. inr (i, l, rw e)) (λ e. rw e old)

  pub marks : (s p v : ℕ) → Mark m ((passes edge far m p (start far s)).parent v)
  marks s zero v = inl refl
  marks s (suc p) v = pass_marks (passes edge far m p (start far s)) (marks s p) m (omega arith) v
