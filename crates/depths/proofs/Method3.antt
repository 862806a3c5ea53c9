-- Method 3's greatest depth: line by line, the depth of each instruction.
-- Rests on Depths and on methods' Steps, Names and Filled.
use mathlib.Core.Path.{◌≡◌, refl, ◌∙◌}
use mathlib.Core.Bool.{cond}
use Prim.Native.Nat.{ℕ, zero, suc, ◌+◌, ◌-◌, ◌*◌, ◌<◌, ◌≤◌, max}
use native.Mathlib.Nat.{add-mul}
use native.Mathlib.Omega.{arith}
use borrow.Author.Tests.{ne_eqb, eqb-true, eqb-false}
use lib.Dec.{eqb}
use lib.IntN.{ℤ}
use Rattle.lists.proofs.Test.{by_test}
use Rattle.machine.specs.Depth.{greatest}
use Rattle.plans.specs.Outline.{middle, vertices, edges, fixed, opens, Outline, end, line, run, each, ◌▸◌, counted_to, start, instructions}
use Rattle.plans.specs.Method3.{from, B, weight, D, P, Y, N, Q, X, S, F, T, prepare, bid, sweep, probe, take, test, plan}
use Rattle.methods.proofs.Steps.{Claim, Runs, loop}
use Rattle.depths.proofs.Depths.{Depths, fresh, depths, named, greatest_is}
use Rattle.methods.proofs.Names.{Name, same, pair}
use Rattle.methods.proofs.Filled.{one_more, the_rest, fill_none, fill, Rows, rows_none, rows_place, rows_next, rows_at}

abbrev Store : Type 0
Store = Depths Name

-- ---- the figures

-- Where an edge finds its from-vertex's distance, with all distances at d: a test of an edge's end is at 7, so distances at 1 count as at 7.
abbrev found : (n d : ℕ) → ℕ
found n d = max 7 d + n

-- The offers after i edges, or the distances, if these are deeper.
abbrev offered : (n d i : ℕ) → ℕ
offered n d zero = d
offered n d (suc i) = found n d + 9 * suc i

-- The distances after p passes.
abbrev deep_after : (n m p : ℕ) → ℕ
deep_after n m zero = 1
deep_after n m (suc p) = offered n (deep_after n m p) m + 7

-- Where the verdict is opened.
abbrev verdict_at : (n m : ℕ) → ℕ
verdict_at n m = offered n (deep_after n m (n - 1)) m + n + 7

bounds : (n d i : ℕ) → (d ≤ offered n d i) × (offered n d i ≤ found n d + 9 * i) × (found n d + 9 * i ≤ offered n d i + n + 7)
bounds n d zero = omega arith
bounds n d (suc i) = omega arith

rises : (n m p q : ℕ) → p < q → deep_after n m (suc p) ≤ deep_after n m q
rises n m p zero l = omega arith
rises n m p (suc q) l =
    by_test (eqb p q)
    (λ e. rw (eqb-true p q e) (omega arith))
    (λ e. omega (arith, rises n m p q (omega (arith, eqb-false p q e)), bounds n (deep_after n m q) m))

-- What a segment's least offer, at y, comes to where the next edge may begin a segment, which is known at s.
unfoldable begun : (s y : ℕ) → ℕ
begun s y = max s (max 1 y) + 1

begun_is : (s y far : ℕ) → far ≡ 1 → max s (max far (max y 0)) + 1 ≡ begun s y
unfolding begun
begun_is s y far e = omega arith

begun_most : (s y x i : ℕ) → s ≤ 7 → 7 < x → max x (y + 1) ≡ x + 9 * i → max x (begun s y) ≡ x + 9 * i
unfolding begun
begun_most s y x i a b e = omega arith

-- .. and where that edge's offer, at x, may be less.
risen : (x y i : ℕ) → max x y ≡ x + 9 * i → max (x + 9 * i + 7) (max x (max y 0)) + 1 ≡ x + 9 * i + 8
risen x y i e = omega arith

-- ---- what a store holds

-- The vertices below k are opened. Neither the edges nor the working cells have been written, but for B 0.
abbrev Opened : ℕ → Store → Type 0
Opened k t =
    ((i : ℕ) → t.0 (from i) ≡ 0)
    × ((i : ℕ) → t.0 (B i) ≤ 1)
    × ((i : ℕ) → t.0 (weight i) ≡ 0)
    × ((v : ℕ) → t.0 (Q v) ≡ 0)
    × ((t.0 (X 6) ≡ 0) × (t.0 (X 7) ≡ 0))
    × ((v : ℕ) → v < k → t.0 (Y v) ≡ 1)
    × ((v : ℕ) → v < k → t.0 (D v) ≡ 1)
    × ((v : ℕ) → v < k → t.0 (P v) ≡ 1)
    × ((v : ℕ) → v < k → t.0 (N v) ≡ 1)

-- All are, and the single cells are set. Prepared are the segments of the edges below j, and the tables of ends up to place v of row i.
abbrev Prepared : (n j i v : ℕ) → Store → Type 0
Prepared n j i v t =
    Opened n t
    × ((t.0 (X 0) ≡ 1) × (t.0 (X 8) ≡ 1))
    × ((k : ℕ) → k < j → t.0 (S k) ≤ 7)
    × Rows n i v (λ i v. 7) (λ p. t.0 (F p))
    × Rows n i v (λ i v. 7) (λ p. t.0 (T p))

module _ (n m : ℕ) where
  -- What no pass writes.
  abbrev Fixed : Store → Type 0
  Fixed t =
      record {
        weight : (i : ℕ) → i < m → t.0 (weight i) ≡ 0;
        begins : (i : ℕ) → i < m → t.0 (S i) ≤ 7;
        from : (i v : ℕ) → i < m → v < n → t.0 (F (i * n + v)) ≡ 7;
        to : (i v : ℕ) → i < m → v < n → t.0 (T (i * n + v)) ≡ 7;
        far : t.0 (X 0) ≡ 1;
        flag : t.0 (X 8) ≡ 1;
      }

  -- The distances are at d.
  abbrev Level : (d : ℕ) → Store → Type 0
  Level d t =
      record {
        fixed : Fixed t;
        dist : (v : ℕ) → v < n → t.0 (D v) ≡ d;
        parent : (v : ℕ) → v < n → t.0 (P v) ≤ d;
      }

  -- After i edges of a pass, the vertices' least offers and their edges; then, with those of the last segment.
  abbrev Offers : (d i : ℕ) → Store → Type 0
  Offers d i t =
      record {
        offers : (v : ℕ) → v < n → max d (t.0 (N v)) ≡ offered n d i;
        edges : (v : ℕ) → v < n → t.0 (Q v) ≤ offered n d i;
      }

  abbrev Swept : (d i : ℕ) → Store → Type 0
  Swept d i t =
      Level d t
      × Offers d i t
      × (max (found n d) (t.0 (X 6) + 1) ≡ found n d + 9 * i)
      × (t.0 (X 7) < found n d + 9 * i)

module _ (far : ℤ) (n m source most : ℕ) where
  -- The outline's instructions for edge i; where it has none of an edge, i is 0.
  abbrev Does : (i : ℕ) → Outline → Claim Store → Claim Store
  Does i o = Runs (depths same most) (instructions pair far n m source o (counted_to middle i start))

  prepare_runs : 7 ≤ most → (i : ℕ) (t : Store) → Prepared n i i 0 t → Does i prepare (Prepared n (suc i) (suc i) 0) t
  unfolding instructions
  prepare_runs room i t (h, c, s, f, g) =
      let (_, b, _, _, _, _, _, _, _) = h in
      let b0 = b i in
      let b1 = b (i + 1) in
      named (max (t.0 (B i)) (t.0 (B (i + 1))) + 6) (omega arith)
      (loop (depths same most) (Prepared n (suc i) i) n _ _ _ (h, c, one_more (λ v c. c ≤ 7) i (omega arith) s, f, g)
      (λ k t lk (h, c, s, f, g).
      let (a, b, _, _, _, y, _, _, _) = h in
      let ai = a i in
      let bi = b (i + 1) in
      let yk = y k lk in
      named 7 (omega arith) (named 7 (omega arith) (h, c, s, rows_place k lk refl f, rows_place k lk refl g)))
      (λ t (h, c, s, f, g). (h, c, s, rows_next f, rows_next g)))

  -- ---- a pass, and the check, with the distances at d

  module _ (some : 0 < n) (d : ℕ) (room : offered n d m + n + 7 ≤ most) where
    -- Where an edge's offer is; and a vertex's least offer, or its distance, if that is deeper.
    abbrev x : ℕ
    x = found n d

    abbrev z : ℕ
    z = offered n d m

    module _ (i : ℕ) (l : i < m) where
      -- Where the least offer of edge i's segment is with edge i's, and its edge.
      abbrev y : ℕ
      y = x + 9 * i + 8

      -- The vertices below k have been looked at for the from-vertex's distance.
      abbrev Selected : ℕ → Store → Type 0
      Selected k t = Swept n m d i t × (max (max 7 d) (t.0 (X 1)) ≡ max 7 d + k)

      -- With edge i's offer. X 5 is whether it is less.
      abbrev Bid : Store → Type 0
      Bid t =
          Level n m d t
          × Offers n m d i t
          × (t.0 (X 6) ≡ y)
          × (t.0 (X 5) + 1 ≡ y)
          × (t.0 (X 7) < x + 9 * i)

      -- The outline o begins with a bid.
      bid_runs : (o : Outline) {rest : Outline} → o ≡ bid rest → (R : Claim Store) (t : Store) → Swept n m d i t
          → ((t : Store) → Bid t → Does i rest R t) → Does i o R t
      unfolding instructions
      bid_runs _ begins R t (h, o, x6, x7) then =
          let f = h.fixed.far in
          let b = bounds n d m in
          rw begins
          (named 1 (omega arith)
          (loop (depths same most) Selected n _ _ _ ((h, o, x6, x7), omega arith)
          (λ k t lk ((h, o, x6, x7), x1).
          let f = h.fixed.from i k l lk in
          let dk = h.dist k lk in
          named (max 7 d + suc k) (omega arith) ((h, o, x6, x7), omega arith))
          (λ t ((h, o, x6, x7), x1).
          let f = h.fixed.far in
          let w = h.fixed.weight i l in
          let c = begun (t.0 (S i)) (t.0 (X 6)) in
          let low = begun_most (t.0 (S i)) (t.0 (X 6)) x i (h.fixed.begins i l) (omega arith) x6 in
          named x (omega arith)
          (named (x + 6) (omega arith)
          (named c (begun_is (t.0 (S i)) (t.0 (X 6)) (t.0 (X 0)) f, omega arith)
          (named (x + 9 * i + 6) (omega arith)
          (named (x + 9 * i + 7) (omega arith)
          (named y (risen x c i low, omega arith) (then _ (h, o, refl, omega arith, x7))))))))))

      -- The vertices below k have the offer, and its edge.
      abbrev Moved : ℕ → Store → Type 0
      Moved k t =
          Level n m d t
          × (t.0 (X 6) ≡ y)
          × (t.0 (X 7) ≡ y)
          × ((v : ℕ) → v < k → t.0 (N v) ≡ y + 1)
          × ((v : ℕ) → v < k → t.0 (Q v) ≡ y + 1)
          × ((v : ℕ) → k ≤ v → v < n → max d (t.0 (N v)) ≡ offered n d i)
          × ((v : ℕ) → k ≤ v → v < n → t.0 (Q v) ≤ offered n d i)

      sweep_runs : (t : Store) → Swept n m d i t → Does i sweep (Swept n m d (suc i)) t
      unfolding instructions
      sweep_runs t h =
          let b = bounds n d i in
          let bm = bounds n d m in
          bid_runs sweep refl _ t h
          (λ t (h, o, x6, x5, x7).
          named 1 (omega arith)
          (named y (omega arith)
          (loop (depths same most) Moved n _ _ _
          (h, x6, refl, fill_none _ _, fill_none _ _, λ v _. o.offers v, λ v _. o.edges v)
          (λ k t lk (h, x6, x7, n1, q1, n0, q0).
          let to = h.fixed.to i k l lk in
          let nk = n0 k (omega arith) lk in
          let qk = q0 k (omega arith) lk in
          named (y + 1) (omega arith)
          (named (y + 1) (omega arith) (
            h,
            x6,
            x7,
            fill k refl n1,
            fill k refl q1,
            the_rest (λ v c. max d c ≡ offered n d i) k _ n n0,
            the_rest (λ v c. c ≤ offered n d i) k _ n q0,
          )))
          (λ t (h, x6, x7, n1, q1, _, _). (
            h,
            record { offers = λ v lv. omega (arith, n1 v lv); edges = λ v lv. omega (arith, q1 v lv) },
            omega arith,
            omega arith,
          )))))

      -- The check, which sweeps without edges.
      abbrev Probed : ℕ → Store → Type 0
      Probed k t =
          Level n m d t
          × (t.0 (X 6) ≡ y)
          × (t.0 (X 7) < y)
          × ((v : ℕ) → v < n → t.0 (Q v) ≤ offered n d i)
          × ((v : ℕ) → v < k → t.0 (N v) ≡ y + 1)
          × ((v : ℕ) → k ≤ v → v < n → max d (t.0 (N v)) ≡ offered n d i)

      probe_runs : (t : Store) → Swept n m d i t → Does i probe (Swept n m d (suc i)) t
      unfolding instructions
      probe_runs t h =
          let b = bounds n d i in
          let bm = bounds n d m in
          bid_runs probe refl _ t h
          (λ t (h, o, x6, _, x7).
          loop (depths same most) Probed n _ _ _ (h, x6, omega arith, o.edges, fill_none _ _, λ v _. o.offers v)
          (λ k t lk (h, x6, x7, q, n1, n0).
          let to = h.fixed.to i k l lk in
          let nk = n0 k (omega arith) lk in
          named (y + 1) (omega arith) (h, x6, x7, q, fill k refl n1, the_rest (λ v c. max d c ≡ offered n d i) k _ n n0))
          (λ t (h, x6, x7, q, n1, _). (
            h,
            record { offers = λ v lv. omega (arith, n1 v lv); edges = λ v lv. omega (arith, q v lv) },
            omega arith,
            omega arith,
          )))

    -- The vertices below k have taken what they gain.
    abbrev Taken : ℕ → Store → Type 0
    Taken k t =
        Fixed n m t
        × Offers n m d m t
        × (t.0 (X 6) < x + 9 * m)
        × (t.0 (X 7) < x + 9 * m)
        × ((v : ℕ) → v < k → t.0 (D v) ≡ z + 7)
        × ((v : ℕ) → v < k → t.0 (P v) ≡ z + 7)
        × ((v : ℕ) → k ≤ v → v < n → t.0 (D v) ≡ d)
        × ((v : ℕ) → k ≤ v → v < n → t.0 (P v) ≤ d)

    pass_runs : (t : Store) → Swept n m d 0 t
        → Does 0 (each middle edges sweep ▸ run vertices take ▸ end) (Swept n m (z + 7) 0) t
    unfolding instructions
    pass_runs t h =
        let b = bounds n d m in
        loop (depths same most) (Swept n m d) m _ _ _ h
        (λ i t l. sweep_runs i l t)
        (λ t (h, o, x6, x7).
        loop (depths same most) Taken n _ _ _
        (h.fixed, o, omega arith, x7, fill_none _ _, fill_none _ _, λ v _. h.dist v, λ v _. h.parent v)
        (λ k t l (f, o, x6, x7, d1, p1, d0, p0).
        let nk = o.offers k l in
        let qk = o.edges k l in
        let dk = d0 k (omega arith) l in
        let pk = p0 k (omega arith) l in
        named (z + 6) (omega arith)
        (named (z + 7) (omega arith)
        (named (z + 7) (omega arith) (
          f,
          o,
          x6,
          x7,
          fill k refl d1,
          fill k refl p1,
          the_rest (λ v c. c ≡ d) k _ n d0,
          the_rest (λ v c. c ≤ d) k _ n p0,
        ))))
        (λ t (f, o, x6, x7, d1, p1, _, _). (
          record { fixed = f; dist = d1; parent = λ v l. omega (arith, p1 v l) },
          record { offers = λ v l. omega (arith, o.offers v l); edges = λ v l. omega (arith, o.edges v l) },
          omega arith,
          omega arith,
        )))

    -- The vertices below k have been looked at.
    abbrev Tested : ℕ → Store → Type 0
    Tested k t =
        ((v : ℕ) → v < n → t.0 (D v) ≡ d)
        × ((v : ℕ) → v < n → max d (t.0 (N v)) ≡ z)
        × (max (z + 6) (t.0 (X 8)) ≡ z + 6 + k)

    check_runs : z + n + 7 ≡ most → (t : Store) → Swept n m d 0 t
        → Does 0 (each middle edges probe ▸ run vertices test ▸ line (opens (X (fixed 8))) ▸ end) (λ t. most ≤ t.1) t
    unfolding instructions
    check_runs top t h =
        loop (depths same most) (Swept n m d) m _ _ _ h
        (λ i t l. probe_runs i l t)
        (λ t (h, o, _, _).
        let x8 = h.fixed.flag in
        loop (depths same most) Tested n _ _ _ (h.dist, o.offers, omega arith)
        (λ k t l (dist, offers, x8).
        let dk = dist k l in
        let nk = offers k l in
        named (z + 6) (omega arith) (named (z + 6 + suc k) (omega arith) (dist, offers, omega arith)))
        (λ t (_, _, x8). named most (omega arith) (omega arith)))

-- ---- the plan

module _ (far : ℤ) (n m source : ℕ) (some : 0 < n) where
  abbrev most : ℕ
  most = verdict_at n m

  plan_runs : Runs (depths same most) (plan pair far n m source) (λ t. most ≤ t.1) fresh
  unfolding plan instructions
  plan_runs =
      loop (depths same most) Opened n _ _ _
      (λ i. refl, λ i. omega arith, λ i. refl, λ v. refl, (refl, refl), fill_none _ _, fill_none _ _, fill_none _ _, fill_none _ _)
      (λ k t l (f, b, w, q, x, y, d, p, o).
      named 1 (omega arith)
      (named 1 (omega arith)
      (named 1 (omega arith)
      (named 1 (omega arith) (f, b, w, q, x, fill k refl y, fill k refl d, fill k refl p, fill k refl o)))))
      (λ t (f, b, w, q, x, y, d, p, o).
      let to : (i : ℕ) → cond (eqb 0 i) 1 (t.0 (B i)) ≤ 1 =
      λ i. by_test (eqb 0 i) (λ e. rw e (omega arith)) (λ e. rw e (b i)) in
      named 1 (omega arith)
      (named 1 (omega arith)
      (named 1 (omega arith)
      (loop (depths same most) (λ i. Prepared n i i 0) m _ _ _
      ((f, to, w, q, x, y, d, p, o), (refl, refl), λ k no. omega arith, rows_none, rows_none)
      (λ i t _. prepare_runs far n m source most (omega arith) i t)
      (λ t ((_, _, w, q, (x6, x7), _, d, p, o), (x0, x8), s, f, g).
      loop (depths same most) (λ p. Swept n m (deep_after n m p) 0) (n - 1) _ _ _ (
        record {
          fixed = record { weight = λ i _. w i; begins = s; from = rows_at f; to = rows_at g; far = x0; flag = x8 };
          dist = d;
          parent = λ v l. omega (arith, p v l);
        },
        record { offers = λ v l. omega (arith, o v l); edges = λ v _. omega (arith, q v) },
        omega arith,
        omega arith,
      )
      (λ p t l.
      let r = rises n m p (n - 1) l in
      let b = bounds n (deep_after n m (n - 1)) m in
      pass_runs far n m source most some (deep_after n m p) (omega arith) t)
      (check_runs far n m source most some (deep_after n m (n - 1)) (omega arith) refl))))))

-- ---- the figure, closed

module _ (n : ℕ) where
  without_edges : (p : ℕ) → deep_after n 0 p ≡ 1 + 7 * p
  without_edges zero = refl
  without_edges (suc p) = omega (arith, without_edges p)

  with_edges : (m p : ℕ) → max 7 (deep_after n (suc m) p) ≡ 7 + p * (n + 9 * suc m + 7)
  with_edges m zero = omega arith
  with_edges m (suc p) = omega (arith, with_edges m p)

  verdict : (m : ℕ) → 0 < n → verdict_at n m ≡ cond (eqb m 0) (8 * n + 1) (9 * (n * m) + n * n + 8 * n + 7)
  verdict zero some = omega (arith, without_edges (n - 1))
  verdict (suc m) some =
      let k : n - 1 + 1 ≡ n = omega arith in
      rw (ne_eqb (suc m) 0 (omega arith))
      (omega (arith, with_edges m (n - 1), rw k at (add-mul (n - 1) 1 (n + 9 * suc m + 7))))

pub greatest3 : (far : ℤ) (n m source : ℕ) → 0 < n
    → greatest same (plan pair far n m source) ≡ cond (eqb m 0) (8 * n + 1) (9 * (n * m) + n * n + 8 * n + 7)
greatest3 far n m source some =
    greatest_is same (verdict_at n m) (plan pair far n m source) (plan_runs far n m source some) ∙ verdict n m some
