-- Method 1's plan on named stores is Bellman-Ford, with the flag raised where an edge can still be relaxed.
-- Rests on edges and on the bound of distances.
use mathlib.Core.Path.{◌≡◌, refl}
use mathlib.Core.Logic.{inl, inr}
use mathlib.Core.Bool.{false}
use Prim.Native.Nat.{ℕ, suc, ◌+◌, ◌-◌, ◌*◌, ◌<◌, ◌≤◌}
use native.Mathlib.Nat.{mul-le-mul_right}
use native.Mathlib.Omega.{arith}
use lib.IntN.{pos}
use Rattle.machine.specs.Effect.{bit}
use Rattle.plans.specs.Outline.{fixed, opens, end, line, start, instructions}
use Rattle.plans.specs.Method1.{D, P, Y, X, solve, plan}
use Rattle.graph.specs.Walk.{Edge}
use Rattle.graph.specs.BellmanFord as BellmanFord
use Rattle.graph.specs.BellmanFord.{State, passes, bellman_ford, slack}
use Rattle.graph.proofs.BellmanFord.{within}
use Rattle.methods.specs.Edges.{Limited}
use Rattle.methods.specs.Method1.{Room}
use Rattle.methods.proofs.Steps.{Runs, loop}
use Rattle.methods.proofs.Names.{pair, Store}
use Rattle.methods.proofs.Filled.{fill_none, fill}
use Rattle.methods.proofs.OverEdges.{Near, steps, joined_runs}
use Rattle.methods.proofs.Edges.{Given, Holds, relax_runs, check_runs}

module _ (far limit : ℕ) (edge : ℕ → Edge) (n m source : ℕ) where
  abbrev first : State
  first = BellmanFord.start (pos far) source

  -- After p passes and i edges of the next.
  abbrev at : ℕ → ℕ → State
  at p i = BellmanFord.pass edge (pos far) i (passes edge (pos far) m p first)

  abbrev pub final : State
  final = bellman_ford edge (pos far) n m source

  -- What the check leaves.
  abbrev pub End : Store → Type 0
  End = Holds far edge n m final (bit (slack edge (pos far) m final))

  -- The opening has set the vertices below k.
  abbrev Opened : ℕ → Store → Type 0
  Opened k t =
      Given edge m t
      × ((v : ℕ) → v < k → t (Y v) ≡ pos v)
      × ((v : ℕ) → v < k → t (D v) ≡ first.dist v)
      × ((v : ℕ) → v < k → t (P v) ≡ first.parent v)

  module _ (room : Room far limit n m) (limited : Limited limit edge n m) where
    near : (p i : ℕ) → i ≤ m → p * m + i ≤ (n - 1) * m → (v : ℕ) → Near far limit ((at p i).dist v)
    near p i l few v =
        elim (within edge m source (pos far) limit limited.weight_most p i l v) [
          | inl e ↦ inl e
          | inr h ↦
              inr
              (omega (
                arith,
                room.deep,
                mul-le-mul_right {m = suc (p * m + i)} {n = suc ((n - 1) * m)} limit (omega arith),
              ))
        ]

    pub solve_runs : (s : Store) → Given edge m s → Runs (steps far limit) (instructions pair (pos far) n m source solve start) End s
    unfolding instructions bit
    solve_runs s h =
        loop (steps far limit) Opened n _ _ _ (h, fill_none _ _, fill_none _ _, fill_none _ _)
        (λ k t l (h, y, d, p). (h, fill k refl y, fill k refl d, fill k refl p))
        (λ t (h, y, d, p).
        loop (steps far limit) (λ p. Holds far edge n m (at p 0) (bit false)) (n - 1) _ _ _
        (record {
          fixed = record { edges = h; vertex = y; far = refl };
          dist = d;
          parent = p;
          flag = refl;
        })
        (λ p t lp h.
        let few : suc p * m ≤ (n - 1) * m = mul-le-mul_right m lp in
        loop (steps far limit) (λ i. Holds far edge n m (at p i) (bit false)) m _ _ _ h
        (λ i t l.
        relax_runs far limit edge n m source limited room.fits (at p i) i l
        (near p i (omega arith) (omega arith) (edge i).from) (bit false) t)
        (λ t h. h))
        (λ t h.
        loop (steps far limit) (λ i. Holds far edge n m final (bit (slack edge (pos far) i final))) m _ _ _ h
        (λ i t l.
        check_runs far limit edge n m source limited room.fits final i l
        (near (n - 1) 0 (omega arith) (omega arith) (edge i).from) (slack edge (pos far) i final) t)
        (λ t h. h)))

    -- The last line opens a cell and changes nothing.
    pub plan_runs : (s : Store) → Given edge m s → Runs (steps far limit) (plan pair (pos far) n m source) End s
    unfolding plan instructions
    plan_runs s h = joined_runs far limit n m source solve (line (opens (X (fixed 7))) end) End End s (solve_runs s h) (λ t e. e)
