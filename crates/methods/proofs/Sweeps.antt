-- Method 3's lines for an edge on named stores: its preparation, and its step of the sweep, in a pass and in the check.
-- Rests on stores, names, bits and filled regions.
use mathlib.Core.Path.{◌≡◌, refl, ap, ◌∙◌}
use mathlib.Core.Bool.{false, and_comm}
use Prim.Native.Nat.{ℕ, zero, suc, ◌+◌, ◌*◌, ◌^◌, ◌<◌}
use native.Mathlib.Numerals.{add-one}
use native.Mathlib.Omega.{arith}
use lib.Dec.{eqb}
use lib.IntN.{ℤ, pos, negsuc}
use lib.Signed.{lt_z}
use Rattle.machine.specs.Effect.{bit}
use Rattle.plans.specs.Outline.{middle, Outline, counted_to, start, instructions}
use Rattle.plans.specs.Method3.{from, B, weight, D, P, Y, N, Q, X, S, F, T, prepare, bid, sweep, probe}
use Rattle.graph.specs.Walk.{Edge}
use Rattle.graph.specs.BellmanFord.{State, offer}
use Rattle.graph.specs.Jacobi.{undercuts, Sweep, begins, before, next}
use Rattle.methods.specs.Edges.{Limited}
use Rattle.methods.proofs.Steps.{Claim, Runs, loop}
use Rattle.methods.proofs.Names.{pair, Store}
use Rattle.methods.proofs.Bits.{both_bit, pick_bit}
use Rattle.methods.proofs.Filled.{upto, upto_zero, upto_all, upto_find, fill, Refilled, refill_none, refill, Rows, rows_place, rows_next}
use Rattle.methods.proofs.OverEdges.{Near, Sum, steps, near_exact, EdgesAt}

-- ---- what a store holds

abbrev pub Given : (edge : ℕ → Edge) (m : ℕ) → Store → Type 0
Given = EdgesAt from (λ i. B (suc i)) weight

module _ (far : ℕ) (edge : ℕ → Edge) (n m : ℕ) where
  -- The vertices below k are opened: they have their numbers, the state, and no offer.
  abbrev pub Opened : State → ℕ → Store → Type 0
  Opened st k s =
      Given edge m s
      × ((v : ℕ) → v < k → s (Y v) ≡ pos v)
      × ((v : ℕ) → v < k → s (D v) ≡ st.dist v)
      × ((v : ℕ) → v < k → s (P v) ≡ st.parent v)
      × ((v : ℕ) → v < k → s (N v) ≡ pos far)

  -- All are, and the single cells are set. Prepared are the segments of the edges below j, and the tables of ends up to place v of row i.
  abbrev pub Prepared : State → (j i v : ℕ) → Store → Type 0
  Prepared st j i v s =
      Opened st n s
      × ((s (B 0) ≡ negsuc 0) × (s (X 0) ≡ pos far) × (s (X 8) ≡ bit false))
      × ((k : ℕ) → k < j → s (S k) ≡ bit (begins edge k))
      × Rows n i v (λ i v. bit (eqb (edge i).from v)) (λ p. s (F p))
      × Rows n i v (λ i v. bit (eqb (edge i).to v)) (λ p. s (T p))

  -- What no pass writes. A record type with no name: a proof for a store is, by computation, one for the store after other writes.
  abbrev pub Fixed : Store → Type 0
  Fixed s =
      record {
        weight : (i : ℕ) → i < m → s (weight i) ≡ (edge i).weight;
        begins : (i : ℕ) → i < m → s (S i) ≡ bit (begins edge i);
        from : (i v : ℕ) → i < m → v < n → s (F (i * n + v)) ≡ bit (eqb (edge i).from v);
        to : (i v : ℕ) → i < m → v < n → s (T (i * n + v)) ≡ bit (eqb (edge i).to v);
        far : s (X 0) ≡ pos far;
      }

  -- The edges, the state and the flag.
  abbrev pub Holds : State → ℤ → Store → Type 0
  Holds st flag s =
      record {
        fixed : Fixed s;
        dist : (v : ℕ) → v < n → s (D v) ≡ st.dist v;
        parent : (v : ℕ) → v < n → s (P v) ≡ st.parent v;
        flag : s (X 8) ≡ flag;
      }

-- What a store has of a sweep: its offers, and their edges.
module _ (n : ℕ) (w : Sweep) (s : Store) where
  abbrev pub Offers : Type 0
  Offers = record { least : s (X 6) ≡ w.least; offers : (v : ℕ) → v < n → s (N v) ≡ w.offers v }

  abbrev pub Named : Type 0
  Named = record { edge : s (X 7) ≡ w.edge; edges : (v : ℕ) → v < n → s (Q v) ≡ w.edges v }

-- With -1 before the first to-vertex, the comparison of neighbours tells where segments begin.
begins_at : (edge : ℕ → Edge) (m : ℕ) (s : Store) → Given edge m s → s (B 0) ≡ negsuc 0
    → (i : ℕ) → i < m → lt_z (s (B i)) (s (B (suc i))) ≡ begins edge i
begins_at edge m s h b zero l = rw (b, h.to 0 l)
begins_at edge m s h b (suc i) l = rw (h.to i (omega arith), h.to (suc i) l)

module _ (far limit : ℕ) (edge : ℕ → Edge) (n m source : ℕ) (st : State) (i : ℕ) (l : i < m) where
  -- The outline's instructions for edge i.
  abbrev Does : Outline → Claim Store → Claim Store
  Does o = Runs (steps far limit) (instructions pair (pos far) n m source o (counted_to middle i start))

  -- ---- the preparation

  pub prepare_runs : (s : Store) → Prepared far edge n m st i i 0 s
      → Does prepare (Prepared far edge n m st (suc i) (suc i) 0) s
  unfolding instructions
  prepare_runs s (h, c, b, f, g) =
      loop (steps far limit) (Prepared far edge n m st (suc i) i) n _ _ _
      (h, c, fill i (ap bit (rw add-one (begins_at edge m s h.0 c.0 i l))) b, f, g)
      (λ k t lk (h, c, b, f, g).
      let (e, y, _, _, _) = h in (
        h,
        c,
        b,
        rows_place k lk (simp (e.from i l, y k lk)) f,
        rows_place k lk (simp (add-one, e.to i l, y k lk)) g,
      ))
      (λ t (h, c, b, f, g). (h, c, b, rows_next f, rows_next g))

  -- ---- the offer, and the sweep's step with it

  module _ (limited : Limited limit edge n m) (fits : far + limit < 2 ^ 63) (near : Near far limit (st.dist (edge i).from))
      (w : Sweep) where
    abbrev u : ℕ
    u = (edge i).from

    -- The least offer of the segment before edge i, and the sweep after it.
    abbrev x : ℤ
    x = before edge (pos far) i w.least

    abbrev after : Sweep
    after = next edge (pos far) st i w

    abbrev Now : Store → Type 0
    Now = Holds far edge n m st (bit false)

    -- A bid writes neither the vertices' offers nor an edge.
    abbrev Kept : Store → Store → Type 0
    Kept s t = ((v : ℕ) → t (N v) ≡ s (N v)) × ((v : ℕ) → t (Q v) ≡ s (Q v)) × (t (X 7) ≡ s (X 7))

    -- The vertices below k have been looked at for the from-vertex's distance.
    abbrev Selected : Store → ℕ → Store → Type 0
    Selected s k t =
        Now t × Kept s t × (t (X 6) ≡ w.least) × (t (X 1) ≡ upto k st.dist (λ v. pos far) u)

    -- The segment's least offer with edge i, and whether it is edge i's.
    abbrev Bid : Store → Store → Type 0
    Bid s t =
        Now t × Kept s t × ((t (X 6) ≡ after.least) × (t (X 5) ≡ bit (undercuts edge (pos far) i st x)))

    -- The outline o begins with a bid.
    bid_runs : (o : Outline) {rest : Outline} → o ≡ bid rest → (R : Claim Store) (s : Store) → Now s → s (X 6) ≡ w.least
        → ((t : Store) → Bid s t → Does rest R t) → Does o R s
    unfolding instructions
    bid_runs _ begun R s h x6 then =
        rw begun
        (loop (steps far limit) (Selected s) n _ _ _
        (h, (λ v. refl, λ v. refl, refl), x6, h.fixed.far ∙ upto_zero st.dist (λ v. pos far) u)
        (λ k t lk (h, kept, x6, x1). (
          h,
          kept,
          x6,
          simp (pick_bit, h.fixed.from i k l lk, h.dist k lk, x1) (upto_find st.dist (λ v. pos far) k u),
        ))
        (λ t (h, kept, x6, x1).
        let x1 : t (X 1) ≡ st.dist u = x1 ∙ upto_all st.dist (λ v. pos far) n u (limited.from_below i l) in
        let weight = h.fixed.weight i l in
        let sum : Sum far limit (st.dist u) (edge i).weight = (near, limited.weight_most i l) in
        let exact = near_exact far limit fits (st.dist u) (edge i).weight sum in
        let less = and_comm (lt_z (offer edge i st) x) (lt_z (st.dist u) (pos far)) in (
          rw (x1, weight) sum,
          then _ (
            h,
            kept,
            simp (both_bit, pick_bit, x1, x6, weight, h.fixed.far, h.fixed.begins i l, exact, less) (refl, refl),
          ),
        )))

    -- The vertices below k are done.
    abbrev Swept : ℕ → Store → Type 0
    Swept k t =
        Now t
        × (t (X 6) ≡ after.least)
        × (t (X 7) ≡ after.edge)
        × Refilled n k after.offers w.offers (λ v. t (N v))
        × Refilled n k after.edges w.edges (λ v. t (Q v))

    pub sweep_runs : (s : Store) → Now s × Offers n w s × Named n w s
        → Does sweep (λ t. Now t × Offers n after t × Named n after t) s
    unfolding instructions
    sweep_runs s (h, o, e) =
        bid_runs sweep refl _ s h o.least
        (λ t (h, (offers, edges, x7), (x6, x5)).
        loop (steps far limit) Swept n _ _ _ (
          h,
          x6,
          simp (pick_bit, x5, x7, e.edge),
          refill_none (λ v lv. offers v ∙ o.offers v lv),
          refill_none (λ v lv. edges v ∙ e.edges v lv),
        )
        (λ k t lk (h, x6, x7, o, e).
        let to = h.fixed.to i k l lk in (
          h,
          x6,
          x7,
          refill k lk (λ old. simp (pick_bit, to, x6, old)) o,
          refill k lk (λ old. simp (pick_bit, to, x7, old)) e,
        ))
        (λ t (h, x6, x7, o, e). (h, record { least = x6; offers = o.done }, record { edge = x7; edges = e.done })))

    -- ---- the check, which sweeps without edges

    abbrev Probed : ℕ → Store → Type 0
    Probed k t = Now t × (t (X 6) ≡ after.least) × Refilled n k after.offers w.offers (λ v. t (N v))

    pub probe_runs : (s : Store) → Now s × Offers n w s → Does probe (λ t. Now t × Offers n after t) s
    unfolding instructions
    probe_runs s (h, o) =
        bid_runs probe refl _ s h o.least
        (λ t (h, (offers, _, _), (x6, _)).
        loop (steps far limit) Probed n _ _ _ (h, x6, refill_none (λ v lv. offers v ∙ o.offers v lv))
        (λ k t lk (h, x6, o). (h, x6, refill k lk (λ old. simp (pick_bit, h.fixed.to i k l lk, x6, old)) o))
        (λ t (h, x6, o). (h, record { least = x6; offers = o.done })))
