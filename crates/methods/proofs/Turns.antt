-- Method 2's plan on named stores is Dijkstra's n turns.
-- Rests on stores, names, bits and filled regions.
use mathlib.Core.Path.{◌≡◌, refl, ap, ◌∙◌}
use mathlib.Core.Logic.{◌⊎◌, inl, inr, ◌≢◌}
use mathlib.Core.Bool.{cond}
use Prim.Native.Nat.{ℕ, suc, ◌+◌, ◌*◌, ◌^◌, ◌<◌, ◌≤◌}
use native.Mathlib.Omega.{arith}
use lib.Dec.{eqb}
use lib.IntN.{ℤ, pos, negsuc, nat_abs, ◌+ℤ◌}
use lib.Signed.{◌<ℤ◌}
use Rattle.machine.specs.Instruction.{Instruction}
use Rattle.machine.specs.Effect.{eq_z, bit, wrap_add}
use Rattle.plans.specs.Outline.{middle, Outline, counted_to, start, instructions}
use Rattle.plans.specs.Method2.{U, D, P, Y, O, R, X, fetch, turn, plan}
use Rattle.plans.specs.declared.Counters.{Counters}
use Rattle.graph.specs.Dijkstra as Dijkstra
use Rattle.graph.specs.Dijkstra.{State, begin, best, who, row_of, is_vertex, turns}
use Rattle.graph.proofs.Int.{arithℤ}
use Rattle.graph.proofs.Dijkstra.{Picked, nobody, picked, pick, sum_bound_is}
use Rattle.methods.proofs.Steps.{Claim, Kind, Runs, loop}
use Rattle.methods.proofs.Stores.{numbers}
use Rattle.methods.proofs.Names.{Name, same, pair, Store}
use Rattle.methods.proofs.Bits.{both_bit, pick_bit, cond_ap, cond_zero, sum_exact}
use Rattle.methods.proofs.Filled.{upto, upto_zero, upto_here, upto_all, upto_suc, upto_find, fill_none, fill}

-- The sums that the method forms: they fit a cell, and of a distance and a weight that are there they are below far.
abbrev pub Sum : (far : ℕ) → ℤ → ℤ → Type 0
Sum far x w = (nat_abs x + nat_abs w < 2 ^ 63) × (x ≢ pos far → w ≢ pos far → (x +ℤ w) <ℤ pos far)

-- The instructions as steps on named stores.
abbrev pub steps : (far : ℕ) → Kind (Instruction Name) Store
steps far = numbers same (Sum far)

apart : (far b r : ℕ) → (b ≡ far) ⊎ (r ≡ far) ⊎ (b + r < far) → pos b ≢ pos far → pos r ≢ pos far → (pos b +ℤ pos r) <ℤ pos far
apart far b r (inl e) x w = absurd (x (ap pos e))
apart far b r (inr (inl e)) x w = absurd (w (ap pos e))
apart far b r (inr (inr l)) x w = omega arithℤ

-- ---- the chosen vertex, and its row

vertex_test : (w : ℤ) (v : ℕ) → eq_z w (pos v) ≡ is_vertex w v
vertex_test (pos u) v = refl
vertex_test (negsuc u) v = refl

module _ (far : ℕ) (table : ℕ → ℕ → ℕ) where
  -- The row of w, once the vertices below k have been looked at.
  abbrev row_upto : ℕ → ℤ → ℕ → ℕ
  row_upto k (pos u) j = upto k (λ v. table v j) (λ v. far) u
  row_upto k (negsuc i) j = far

  row_zero : (w : ℤ) (j : ℕ) → far ≡ row_upto 0 w j
  row_zero (pos u) j = upto_zero (λ v. table v j) (λ v. far) u
  row_zero (negsuc i) j = refl

  row_suc : (k : ℕ) (w : ℤ) (j : ℕ) → cond (is_vertex w k) (table k j) (row_upto k w j) ≡ row_upto (suc k) w j
  row_suc k (pos u) j = upto_find (λ v. table v j) (λ v. far) k u
  row_suc k (negsuc i) j = refl

  row_all : (st : State) (n : ℕ) {b : ℕ} {w : ℤ} → Picked far st n b w → (j : ℕ) → row_upto n w j ≡ row_of far table w j
  row_all st n nobody j = refl
  row_all st n (picked u l o d) j = upto_all (λ v. table v j) (λ v. far) n u l

-- ---- what a store holds

-- The table as intake lays it.
abbrev pub Given : (table : ℕ → ℕ → ℕ) (n : ℕ) → Store → Type 0
Given table n s = (u j : ℕ) → u < n → j < n → s (U (u * n + j)) ≡ pos (table u j)

module _ (far : ℕ) (table : ℕ → ℕ → ℕ) (n : ℕ) where
  -- What no turn writes. A record type with no name: a proof for a store is, by computation, one for the store after other writes.
  abbrev pub Fixed : Store → Type 0
  Fixed s =
      record {
        entry : Given table n s;
        vertex : (v : ℕ) → v < n → s (Y v) ≡ pos v;
        far : s (X 0) ≡ pos far;
        zero : s (X 4) ≡ pos 0;
      }

  -- The table and the state.
  abbrev pub Holds : State → Store → Type 0
  Holds st s =
      record {
        fixed : Fixed s;
        dist : (v : ℕ) → v < n → s (D v) ≡ pos (st.dist v);
        parent : (v : ℕ) → v < n → s (P v) ≡ st.parent v;
        unseen : (v : ℕ) → v < n → s (O v) ≡ bit (st.unseen v);
      }

module _ (far : ℕ) (table : ℕ → ℕ → ℕ) (n source : ℕ) (most : (u j : ℕ) → u < n → j < n → table u j ≤ far)
    (fits : far + far < 2 ^ 63) where
  abbrev Does : Outline → Counters → Claim Store → Claim Store
  Does o k = Runs (steps far) (instructions pair (pos far) n 0 source o k)

  -- ---- a turn

  module _ (st : State) where
    abbrev b : ℕ
    b = best far st n

    abbrev w : ℤ
    w = who far st n

    abbrev row : ℕ → ℕ
    row = row_of far table w

    abbrev next : State
    next = Dijkstra.turn far table n st

    -- The nearest open vertex below k.
    abbrev Chosen : ℕ → Store → Type 0
    Chosen k t = Holds far table n st t × (t (X 1) ≡ pos (best far st k)) × (t (X 3) ≡ who far st k)

    abbrev Cleared : ℕ → Store → Type 0
    Cleared k t =
        Holds far table n st t × (t (X 1) ≡ pos b) × (t (X 3) ≡ w) × ((j : ℕ) → j < k → t (R j) ≡ pos far)

    -- The vertices below k have been looked at: the chosen one is closed, and its row is fetched.
    abbrev closing : ℕ → State
    closing k = record { dist = st.dist; parent = st.parent; unseen = upto k next.unseen st.unseen }

    abbrev Fetched : ℕ → Store → Type 0
    Fetched k t =
        Holds far table n (closing k) t
        × (t (X 1) ≡ pos b)
        × (t (X 3) ≡ w)
        × ((j : ℕ) → j < n → t (R j) ≡ pos (row_upto far table k w j))

    -- And vertex k too, with the places below i of its row.
    abbrev Fetching : ℕ → ℕ → Store → Type 0
    Fetching k i t =
        Holds far table n (closing (suc k)) t
        × (t (X 1) ≡ pos b)
        × (t (X 3) ≡ w)
        × (t (X 5) ≡ bit (is_vertex w k))
        × ((j : ℕ) → j < n → t (R j) ≡ pos (upto i (row_upto far table (suc k) w) (row_upto far table k w) j))

    fetch_runs : (k : ℕ) (t : Store) → k < n → Fetched k t → Does fetch (counted_to middle k start) (Fetched (suc k)) t
    unfolding instructions
    fetch_runs k t l (h, x1, x3, r) =
        let new = row_upto far table (suc k) w in
        let old = row_upto far table k w in
        let y = h.fixed.vertex k l in
        let z = h.fixed.zero in
        let o : t (O k) ≡ bit (st.unseen k) = h.unseen k l ∙ ap bit (upto_here next.unseen st.unseen k) in
        loop (steps far) (Fetching k) n _ _ _ (
          record {
            fixed = h.fixed;
            dist = h.dist;
            parent = h.parent;
            unseen =
                λ v lv.
                simp (pick_bit, x3, y, vertex_test, z, o, h.unseen v lv, cond_zero, cond_ap bit)
                (ap bit (upto_suc next.unseen st.unseen k v));
          },
          x1,
          x3,
          simp (x3, y, vertex_test),
          λ j lj. r j lj ∙ ap pos (upto_zero new old j),
        )
        (λ i t li (h, x1, x3, x5, r).
        let e = h.fixed.entry k i l li in (
          h,
          x1,
          x3,
          x5,
          λ j lj.
              simp (pick_bit, x5, e, r i li, r j lj, upto_here new old i, cond_ap pos, row_suc far table k w i)
              (ap pos (upto_suc new old i j)),
        ))
        (λ t (h, x1, x3, _, r). (h, x1, x3, λ j lj. r j lj ∙ ap pos (upto_all new old n j lj)))

    -- The vertices below k are relaxed.
    abbrev mix : ℕ → State
    mix k =
        record {
          dist = upto k next.dist st.dist;
          parent = upto k next.parent st.parent;
          unseen = next.unseen;
        }

    abbrev Relaxed : ℕ → Store → Type 0
    Relaxed k t =
        Holds far table n (mix k) t × (t (X 1) ≡ pos b) × (t (X 3) ≡ w) × ((j : ℕ) → j < n → t (R j) ≡ pos (row j))

    turn_runs : ((j : ℕ) → j < n → (b ≡ far) ⊎ (row j ≡ far) ⊎ (b + row j < far)) → (s : Store) → Holds far table n st s
        → Does turn start (Holds far table n next) s
    unfolding instructions
    turn_runs near s h =
        loop (steps far) Chosen n _ _ _ (h, h.fixed.far, refl)
        (λ k t l (h, x1, x3).
        let d = h.dist k l in
        let o = h.unseen k l in (
          h,
          simp (both_bit, pick_bit, d, o, x1, cond_ap pos),
          simp (both_bit, pick_bit, d, o, h.fixed.vertex k l, x1, x3),
        ))
        (λ t (h, x1, x3).
        loop (steps far) Cleared n _ _ _ (h, x1, x3, fill_none _ _)
        (λ k t l (h, x1, x3, r). (h, x1, x3, fill k h.fixed.far r))
        (λ t (h, x1, x3, r).
        loop (steps far) Fetched n _ _ _ (
          record {
            fixed = h.fixed;
            dist = h.dist;
            parent = h.parent;
            unseen = λ v l. h.unseen v l ∙ ap bit (upto_zero next.unseen st.unseen v);
          },
          x1,
          x3,
          λ j l. r j l ∙ ap pos (row_zero far table w j),
        )
        fetch_runs
        (λ t (h, x1, x3, r).
        loop (steps far) Relaxed n _ _ _ (
          record {
            fixed = h.fixed;
            dist = λ v l. h.dist v l ∙ ap pos (upto_zero next.dist st.dist v);
            parent = λ v l. h.parent v l ∙ upto_zero next.parent st.parent v;
            unseen = λ v l. h.unseen v l ∙ ap bit (upto_all next.unseen st.unseen n v l);
          },
          x1,
          x3,
          λ j l. r j l ∙ ap pos (row_all far table st n (pick far st n).0 j),
        )
        (λ k t l (h, x1, x3, r).
        let small : b + row k < 2 ^ 63 = omega (arith, sum_bound_is far table n most st k l) in
        let sum : wrap_add (pos b) (pos (row k)) ≡ pos (b + row k) = sum_exact (pos b) (pos (row k)) small in
        let d : t (D k) ≡ pos (st.dist k) = h.dist k l ∙ ap pos (upto_here next.dist st.dist k) in
        let p : t (P k) ≡ st.parent k = h.parent k l ∙ upto_here next.parent st.parent k in (
          rw (x1, r k l) (small, apart far b (row k) (near k l)),
          (
            record {
              fixed = h.fixed;
              dist =
                  λ v lv.
                  simp (pick_bit, x1, r k l, sum, d, h.dist v lv, cond_ap pos)
                  (ap pos (upto_suc next.dist st.dist k v));
              parent =
                  λ v lv.
                  simp (pick_bit, x1, x3, r k l, sum, d, p, h.parent v lv)
                  (upto_suc next.parent st.parent k v);
              unseen = h.unseen;
            },
            x1,
            x3,
            r,
          ),
        ))
        (λ t (h, _, _, _).
        record {
          fixed = h.fixed;
          dist = λ v l. h.dist v l ∙ ap pos (upto_all next.dist st.dist n v l);
          parent = λ v l. h.parent v l ∙ upto_all next.parent st.parent n v l;
          unseen = h.unseen;
        }))))

  -- ---- the opening and all turns

  abbrev first : State
  first = begin far source

  -- The opening has set the vertices below k.
  abbrev Opened : ℕ → Store → Type 0
  Opened k t =
      Given table n t
      × ((v : ℕ) → v < k → t (Y v) ≡ pos v)
      × ((v : ℕ) → v < k → t (D v) ≡ pos (first.dist v))
      × ((v : ℕ) → v < k → t (P v) ≡ first.parent v)
      × ((v : ℕ) → v < k → t (O v) ≡ bit (first.unseen v))

  pub plan_runs : ((t : ℕ) → t < n → (j : ℕ) → j < n
      → (b (turns far table n source t) ≡ far)
      ⊎ (row (turns far table n source t) j ≡ far)
      ⊎ (b (turns far table n source t) + row (turns far table n source t) j < far))
      → (s : Store) → Given table n s
      → Runs (steps far) (plan pair (pos far) n source) (Holds far table n (turns far table n source n)) s
  unfolding plan instructions bit
  plan_runs near s h =
      loop (steps far) Opened n _ _ _ (h, fill_none _ _, fill_none _ _, fill_none _ _, fill_none _ _)
      (λ k t l (h, y, d, p, o). (h, fill k refl y, fill k (cond_ap pos (eqb k source) 0 far) d, fill k refl p, fill k refl o))
      (λ t (h, y, d, p, o).
      loop (steps far) (λ k. Holds far table n (turns far table n source k)) n _ _ _
      (record {
        fixed = record { entry = h; vertex = y; far = refl; zero = refl };
        dist = d;
        parent = p;
        unseen = o;
      })
      (λ k t l. turn_runs (turns far table n source k) (near k l) t)
      (λ t h. h))
