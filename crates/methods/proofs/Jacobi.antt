-- Method 3's plan on named stores is Bellman-Ford with Jacobi passes, with the flag raised where a vertex can still gain.
-- Rests on the lines for an edge, on graph's sweep and on the bound of distances.
use mathlib.Core.Path.{◌≡◌, refl, ◌∙◌}
use mathlib.Core.Logic.{inl, inr, ◌≢◌}
use mathlib.Core.Bool.{false, cond}
use Prim.Native.Nat.{ℕ, suc, ◌-◌, ◌*◌, ◌<◌, ◌≤◌}
use native.Mathlib.Nat.{mul-le-mul_right}
use native.Mathlib.Omega.{arith}
use borrow.Author.Tests.{ne_eqb}
use lib.Dec.{eqb}
use lib.IntN.{pos, negsuc}
use lib.Signed.{◌≤ℤ◌, ◌<ℤ◌}
use Rattle.machine.specs.Effect.{bit}
use Rattle.plans.specs.Outline.{middle, vertices, edges, fixed, opens, Outline, end, line, run, each, ◌▸◌, start, instructions}
use Rattle.plans.specs.Method3 as Method3
use Rattle.plans.specs.Method3.{B, D, P, N, Q, X, probe, take, test, plan}
use Rattle.graph.specs.Walk.{Edge}
use Rattle.graph.specs.BellmanFord as BellmanFord
use Rattle.graph.specs.BellmanFord.{State}
use Rattle.graph.specs.Jacobi.{gains, pass, passes, jacobi, slack, Sweep, Sorted, sweep}
use Rattle.graph.proofs.Int.{arithℤ}
use Rattle.graph.proofs.Jacobi.{within, low}
use Rattle.graph.proofs.Sweep.{swept, still_idle, takes}
use Rattle.methods.specs.Edges.{Limited}
use Rattle.methods.specs.Method3.{Room}
use Rattle.methods.proofs.Steps.{Claim, Runs, loop}
use Rattle.methods.proofs.Names.{pair, Store}
use Rattle.methods.proofs.Bits.{pick_bit, raise}
use Rattle.methods.proofs.Filled.{fill_none, fill, Refilled, refill_none, refill, rows_none, rows_at}
use Rattle.methods.proofs.OverEdges.{Near, steps, ends_below}
use Rattle.methods.proofs.Sweeps.{Given, Opened, Prepared, Fixed, Holds, Offers, Named, prepare_runs, sweep_runs, probe_runs}

module _ (far limit : ℕ) (edge : ℕ → Edge) (n m source : ℕ) (room : Room far limit n) (limited : Limited limit edge n m)
    (sorted : Sorted edge m) where
  abbrev Does : Outline → Claim Store → Claim Store
  Does o = Runs (steps far limit) (instructions pair (pos far) n m source o start)

  -- Between passes: a vertex that no edge leads to has no offer.
  abbrev Ready : State → Store → Type 0
  Ready st t =
      Holds far edge n m st (bit false) t
      × ((v : ℕ) → v < n → ((i : ℕ) → i < m → (edge i).to ≢ v) → t (N v) ≡ pos far)

  module _ (st : State) (near : (v : ℕ) → Near far limit (st.dist v)) where
    -- A sweep that begins with what the store s has, after the edges below i.
    abbrev sweep_from : Store → ℕ → Sweep
    sweep_from s i =
        sweep edge (pos far) st i
        (record { least = s (X 6); edge = s (X 7); offers = λ v. s (N v); edges = λ v. s (Q v) })

    -- ---- a pass

    abbrev after : State
    after = pass edge (pos far) m st

    abbrev Swept : Store → ℕ → Store → Type 0
    Swept s i t = Holds far edge n m st (bit false) t × Offers n (sweep_from s i) t × Named n (sweep_from s i) t

    -- The vertices below k have taken what they gain.
    abbrev Taken : Store → ℕ → Store → Type 0
    Taken s k t =
        Fixed far edge n m t
        × (t (X 8) ≡ bit false)
        × Offers n (sweep_from s m) t
        × Named n (sweep_from s m) t
        × Refilled n k after.dist st.dist (λ v. t (D v))
        × Refilled n k after.parent st.parent (λ v. t (P v))

    pass_runs : ((v : ℕ) → st.dist v ≤ℤ pos far) → (s : Store) → Ready st s
        → Does (each middle edges Method3.sweep ▸ run vertices take ▸ end) (Ready after) s
    unfolding instructions
    pass_runs low s (h, idle) =
        loop (steps far limit) (Swept s) m _ _ _
        (h, record { least = refl; offers = λ v l. refl }, record { edge = refl; edges = λ v l. refl })
        (λ i t l. sweep_runs far limit edge n m source st i l limited room.fits (near (edge i).from) (sweep_from s i) t)
        (λ t (h, o, e).
        loop (steps far limit) (Taken s) n _ _ _ (h.fixed, h.flag, o, e, refill_none h.dist, refill_none h.parent)
        (λ k t l (f, x8, o, e, d, p).
        let took = takes edge m sorted (pos far) st (sweep_from s 0) k (idle k l) (low k) in
        let was = d.left k l (omega arith) in (
          f,
          x8,
          o,
          e,
          refill k l (λ old. simp (pick_bit, o.offers k l, old) took.0) d,
          refill k l (λ old. simp (pick_bit, o.offers k l, e.edges k l, was, old) took.1) p,
        ))
        (λ t (f, x8, o, e, d, p). (
          record { fixed = f; dist = d.done; parent = p.done; flag = x8 },
          λ v l none. o.offers v l ∙ still_idle edge m sorted (pos far) st (sweep_from s 0) v (idle v l) none,
        )))

    -- ---- the check

    -- The vertices below k have been looked at.
    abbrev Tested : Store → ℕ → Store → Type 0
    Tested s k t = Holds far edge n m st (bit (slack edge (pos far) m k st)) t × Offers n (sweep_from s m) t

    check_runs : (s : Store) → Ready st s
        → Does (each middle edges probe ▸ run vertices test ▸ line (opens (X (fixed 8))) ▸ end)
        (Holds far edge n m st (bit (slack edge (pos far) m n st))) s
    unfolding instructions
    check_runs s (h, idle) =
        loop (steps far limit) (λ i t. Holds far edge n m st (bit false) t × Offers n (sweep_from s i) t) m _ _ _
        (h, record { least = refl; offers = λ v l. refl })
        (λ i t l. probe_runs far limit edge n m source st i l limited room.fits (near (edge i).from) (sweep_from s i) t)
        (λ t h.
        loop (steps far limit) (Tested s) n _ _ _ h
        (λ k t l (h, o).
        let least = (swept edge m sorted (pos far) st (sweep_from s 0) k (idle k l)).0 in (
          record {
            fixed = h.fixed;
            dist = h.dist;
            parent = h.parent;
            flag =
                simp (pick_bit, o.offers k l, least, h.dist k l, h.flag)
                (raise (gains edge (pos far) m st k) (slack edge (pos far) m k st));
          },
          o,
        ))
        (λ t (h, _). h))

  -- ---- the whole plan

  module _ (inside : source < n) where
    abbrev first : State
    first = BellmanFord.start (pos far) source

    abbrev final : State
    final = jacobi edge (pos far) n m source

    -- After p passes.
    abbrev at : ℕ → State
    at p = passes edge (pos far) m p first

    deep : pos (n * limit) <ℤ pos far
    deep = omega (arithℤ, room.deep)

    near_at : (p : ℕ) → p ≤ n - 1 → (v : ℕ) → Near far limit ((at p).dist v)
    near_at p few v =
        elim (within edge m n source (pos far) limit (ends_below edge n m limited) inside limited.weight_most deep p v) [
          | inl e ↦ inl e
          | inr h ↦ inr (omega (arith, room.deep, mul-le-mul_right {m = suc p} {n = n} limit (omega arith)))
        ]

    low_at : (p v : ℕ) → (at p).dist v ≤ℤ pos far
    low_at = low edge m n source (pos far) limit (ends_below edge n m limited) inside limited.weight_most deep

    pub plan_runs : (s : Store) → Given edge m s
        → Runs (steps far limit) (plan pair (pos far) n m source) (Holds far edge n m final (bit (slack edge (pos far) m n final))) s
    unfolding plan instructions bit
    plan_runs s h =
        loop (steps far limit) (Opened far edge n m first) n _ _ _ (h, fill_none _ _, fill_none _ _, fill_none _ _, fill_none _ _)
        (λ k t l (h, y, d, p, o). (h, fill k refl y, fill k refl d, fill k refl p, fill k refl o))
        (λ t (h, y, d, p, o).
        let to : (i : ℕ) → i < m → cond (eqb 0 (suc i)) (negsuc 0) (t (B (suc i))) ≡ pos (edge i).to =
        λ i l. rw (ne_eqb 0 (suc i) (omega arith)) (h.to i l) in
        loop (steps far limit) (λ i. Prepared far edge n m first i i 0) m _ _ _ (
          (record { from = h.from; to = to; weight = h.weight }, y, d, p, o),
          (refl, refl, refl),
          fill_none _ _,
          rows_none,
          rows_none,
        )
        (λ i t l. prepare_runs far limit edge n m source first i l t)
        (λ t ((h, _, d, p, o), (_, x0, x8), b, f, g).
        loop (steps far limit) (λ p. Ready (at p)) (n - 1) _ _ _ (
          record {
            fixed = record { weight = h.weight; begins = b; from = rows_at f; to = rows_at g; far = x0 };
            dist = d;
            parent = p;
            flag = x8;
          },
          λ v l none. o v l,
        )
        (λ p t l. pass_runs (at p) (near_at p (omega arith)) (low_at p) t)
        (check_runs final (near_at (n - 1) (omega arith)))))
