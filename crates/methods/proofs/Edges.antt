-- Method 1's lines for an edge on named stores: its relaxation and its check are those of Bellman-Ford.
-- Rests on stores, names, bits and filled regions.
use mathlib.Core.Path.{◌≡◌, refl, ap, ◌∙◌}
use mathlib.Core.Bool.{Bool, ◌&&◌, ◌||◌}
use Prim.Native.Nat.{ℕ, ◌+◌, ◌^◌, ◌<◌}
use native.Mathlib.Omega.{arith}
use borrow.Author.Tests.{eqb-true}
use lib.Dec.{eqb}
use lib.IntN.{ℤ, pos}
use lib.Signed.{lt_z}
use Rattle.machine.specs.Effect.{bit}
use Rattle.plans.specs.Outline.{middle, vertices, fixed, counted, set, Outline, end, line, run, ◌▸◌, counted_to, start, instructions}
use Rattle.plans.specs.Method1.{from, to, weight, D, P, Y, X, gather, update, test, relax, check}
use Rattle.graph.specs.Walk.{Edge}
use Rattle.graph.specs.BellmanFord.{State, offer, gain, relaxed}
use Rattle.methods.specs.Edges.{Limited}
use Rattle.methods.proofs.Steps.{Claim, Runs, loop}
use Rattle.methods.proofs.Names.{pair, Store}
use Rattle.methods.proofs.Bits.{both_bit, pick_bit, raised, and_at}
use Rattle.methods.proofs.OverEdges.{Near, Sum, steps, near_exact, EdgesAt}
use Rattle.methods.proofs.Filled.{upto, upto_zero, upto_here, upto_all, upto_find, Refilled, refill_none, refill}

-- ---- what a store holds

abbrev pub Given : (edge : ℕ → Edge) (m : ℕ) → Store → Type 0
Given = EdgesAt from to weight

module _ (far : ℕ) (edge : ℕ → Edge) (n m : ℕ) where
  -- What no pass writes. A record type with no name: a proof for a store is, by computation, one for the store after other writes.
  abbrev pub Fixed : Store → Type 0
  Fixed s =
      record { edges : Given edge m s; vertex : (v : ℕ) → v < n → s (Y v) ≡ pos v; far : s (X 0) ≡ pos far }

  -- The edges, the state and the flag.
  abbrev pub Holds : State → ℤ → Store → Type 0
  Holds st flag s =
      record {
        fixed : Fixed s;
        dist : (v : ℕ) → v < n → s (D v) ≡ st.dist v;
        parent : (v : ℕ) → v < n → s (P v) ≡ st.parent v;
        flag : s (X 7) ≡ flag;
      }

module _ (far limit : ℕ) (edge : ℕ → Edge) (n m source : ℕ) (limited : Limited limit edge n m) (fits : far + limit < 2 ^ 63)
    (st : State) (i : ℕ) (l : i < m) (near : Near far limit (st.dist (edge i).from)) where
  abbrev u : ℕ
  u = (edge i).from

  -- The outline's instructions for edge i.
  abbrev Does : Outline → Claim Store → Claim Store
  Does o = Runs (steps far limit) (instructions pair (pos far) n m source o (counted_to middle i start))

  -- ---- the from-vertex's distance, the offer, and whether the from-vertex is reached

  module _ (flag : ℤ) where
    abbrev Selected : ℕ → Store → Type 0
    Selected k t = Holds far edge n m st flag t × (t (X 1) ≡ upto k st.dist (λ v. pos far) u)

    abbrev Gathered : Store → Type 0
    Gathered t =
        Holds far edge n m st flag t × (t (X 2) ≡ offer edge i st) × (t (X 4) ≡ bit (lt_z (st.dist u) (pos far)))

    gather_runs : (rest : Outline) (R : Claim Store) (s : Store) → Holds far edge n m st flag s
        → ((t : Store) → Gathered t → Does rest R t) → Does (gather rest) R s
    unfolding instructions
    gather_runs rest R s h then =
        loop (steps far limit) Selected n _ _ _ (h, h.fixed.far ∙ upto_zero st.dist (λ v. pos far) u)
        (λ k t lk (h, x). (
          h,
          simp (pick_bit, h.fixed.edges.from i l, h.fixed.vertex k lk, h.dist k lk, x)
              (upto_find st.dist (λ v. pos far) k u),
        ))
        (λ t (h, x).
        let e : t (X 1) ≡ st.dist u = x ∙ upto_all st.dist (λ v. pos far) n u (limited.from_below i l) in
        let sum : Sum far limit (st.dist u) (edge i).weight = (near, limited.weight_most i l) in
        let exact = near_exact far limit fits (st.dist u) (edge i).weight sum in (
          rw (e, h.fixed.edges.weight i l) sum,
          then _ (h, simp (e, h.fixed.edges.weight i l) exact, simp (e, h.fixed.far)),
        ))

  -- The test made at vertex k: only the to-vertex can gain.
  test_at : (k : ℕ) → ((lt_z (offer edge i st) (st.dist k) && lt_z (st.dist u) (pos far)) && eqb (edge i).to k)
      ≡ (gain edge (pos far) i st && eqb (edge i).to k)
  test_at k = and_at (λ v. lt_z (offer edge i st) (st.dist v)) (lt_z (st.dist u) (pos far)) (edge i).to k

  -- ---- the relaxation

  module _ (flag : ℤ) where
    abbrev next : State
    next = relaxed edge (pos far) i st

    -- The vertices below k are done.
    abbrev Updated : ℕ → Store → Type 0
    Updated k t =
        Fixed far edge n m t
        × (t (X 7) ≡ flag)
        × (t (X 2) ≡ offer edge i st)
        × (t (X 4) ≡ bit (lt_z (st.dist u) (pos far)))
        × (t (X 3) ≡ pos i)
        × Refilled n k next.dist st.dist (λ v. t (D v))
        × Refilled n k next.parent st.parent (λ v. t (P v))

    pub relax_runs : (s : Store) → Holds far edge n m st flag s → Does relax (Holds far edge n m next flag) s
    unfolding instructions
    relax_runs s h =
        gather_runs flag (line (set (X (fixed 3)) (counted middle)) ▸ run vertices update ▸ end) _ s h
        (λ t (h, x2, x4).
        loop (steps far limit) Updated n _ _ _
        (h.fixed, h.flag, x2, x4, refl, refill_none h.dist, refill_none h.parent)
        (λ k t lk (f, x7, x2, x4, x3, d, p).
        let to_k = f.edges.to i l in
        let y = f.vertex k lk in
        let was = d.left k lk (omega arith) in (
          f,
          x7,
          x2,
          x4,
          x3,
          refill k lk (λ old. simp (both_bit, pick_bit, x2, x4, to_k, y, old, test_at k)) d,
          refill k lk (λ old. simp (both_bit, pick_bit, x2, x4, x3, to_k, y, was, old, test_at k)) p,
        ))
        (λ t (f, x7, _, _, _, d, p). record { fixed = f; dist = d.done; parent = p.done; flag = x7 }))

  -- ---- the check: the flag is raised where the edge has a gain

  module _ (b : Bool) where
    abbrev old : ℕ → ℤ
    old v = bit b

    abbrev new : ℕ → ℤ
    new v = bit (b || gain edge (pos far) i st)

    abbrev Tested : ℕ → Store → Type 0
    Tested k t = Gathered (upto k new old (edge i).to) t

    pub check_runs : (s : Store) → Holds far edge n m st (bit b) s
        → Does check (Holds far edge n m st (bit (b || gain edge (pos far) i st))) s
    unfolding instructions
    check_runs s h =
        gather_runs (bit b) (run vertices test ▸ end) _ s h
        (λ t (h, x2, x4).
        loop (steps far limit) Tested n _ _ _ (rw (← upto_zero new old (edge i).to) h, x2, x4)
        (λ k t lk (h, x2, x4). (
          record {
            fixed = h.fixed;
            dist = h.dist;
            parent = h.parent;
            flag =
                simp (both_bit, pick_bit, x2, x4, h.fixed.edges.to i l, h.fixed.vertex k lk, h.dist k lk, h.flag, test_at k)
                (raised (gain edge (pos far) i st) b (eqb (edge i).to k) (upto k new old (edge i).to)
                (λ e. ap (upto k new old) (eqb-true (edge i).to k e) ∙ upto_here new old k)
                ∙ upto_find new old k (edge i).to);
          },
          x2,
          x4,
        ))
        (λ t (h, _, _). rw (← upto_all new old n (edge i).to (limited.to_below i l)) h))
