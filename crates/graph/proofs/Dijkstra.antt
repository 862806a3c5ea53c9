-- Dijkstra over a table of natural weights finds the least totals and their parents in n turns.
-- Rests on parents, the certificate and the pigeonhole principle.
use mathlib.Core.Path.{◌≡◌, refl, sym, ◌∙◌, ap, subst, fun_ext}
use mathlib.Core.Logic.{◌⊎◌, inl, inr, ◌≢◌}
use mathlib.Core.Bool.{Bool, true, false, cond, true≢false, and-eq-true_iff}
use mathlib.Core.List.{List, [], ◌∷◌}
use Prim.Native.Nat.{ℕ, zero, suc, ◌+◌, ◌*◌, ◌≤◌, ◌<◌}
use native.Mathlib.Nat.{mul-le-mul_right}
use native.Mathlib.Omega.{arith}
use native.Mathlib.Decide.{ℕ_discrete, dec_lt}
use borrow.Author.Tests.{ltb-true, ltb-false, eqb-true, le-ltb, eq-eqb, ne_eqb}
use lib.Dec.{ltb, eqb}
use lib.IntN.{ℤ, pos, negsuc}
use lib.Signed.{◌≤ℤ◌}
use Rattle.lists.proofs.Test.{by_test, and_not}
use Rattle.graph.specs.Walk.{Edge, Chain, total, NegativeCycle}
use Rattle.graph.specs.Shortest.{Shortest}
use Rattle.graph.specs.Dijkstra.{table_network, from_vertex, State, begin, nearer, best, who, row_of, settle, turns}
use Rattle.graph.proofs.Int.{arithℤ, sum}
use Rattle.graph.proofs.Pigeon.{pigeon}
use Rattle.graph.proofs.Certificate.{Closed}
use Rattle.graph.proofs.Parents as parents
use Rattle.graph.proofs.Parents.{Ranked}

-- ---- the choice

nearer_yes : (b : ℕ) (st : State) (k : ℕ) → nearer b st k ≡ true → (st.dist k < b) × (st.unseen k ≡ true)
nearer_yes b st k e = let r = (and-eq-true_iff (ltb (st.dist k) b) (st.unseen k)).0 e in (ltb-true (st.dist k) b r.0, r.1)

nearer_no : (b : ℕ) (st : State) (k : ℕ) → nearer b st k ≡ false → st.unseen k ≡ true → b ≤ st.dist k
nearer_no b st k e o =
    by_test (ltb (st.dist k) b) (λ t. absurd (true≢false (sym o ∙ and_not (ltb (st.dist k) b) (st.unseen k) e t))) (ltb-false (st.dist k) b)

-- What `best` and `who` are: `far` and -1, or the distance of an open vertex below k and that vertex.
pub data Picked (far : ℕ) (st : State) (k : ℕ) : ℕ → ℤ → Type 0 where
  nobody : Picked far st k far (negsuc 0)
  picked : (u : ℕ) → u < k → st.unseen u ≡ true → st.dist u < far → Picked far st k (st.dist u) (pos u)

-- No open vertex below k is nearer than b.
abbrev pub Bound : State → ℕ → ℕ → Type 0
Bound st k b = (v : ℕ) → v < k → st.unseen v ≡ true → b ≤ st.dist v

picked_below : {far : ℕ} {st : State} {k b : ℕ} {w : ℤ} → Picked far st k b w → b ≤ far
picked_below nobody = omega arith
picked_below (picked u l o d) = omega arith

wider : {far : ℕ} {st : State} {k b : ℕ} {w : ℤ} → Picked far st k b w → Picked far st (suc k) b w
wider nobody = nobody
wider (picked u l o d) = picked u (omega arith) o d

bound_more : (st : State) (k b b' : ℕ) → Bound st k b → b' ≤ b → (st.unseen k ≡ true → b' ≤ st.dist k) → Bound st (suc k) b'
bound_more st k b b' old l new v h o = elim (ℕ_discrete v k) [ yes e ↦ rw e (new (rw e at o)) | no f ↦ omega (arith, old v (omega arith) o) ]

pub pick : (far : ℕ) (st : State) (k : ℕ) → Picked far st k (best far st k) (who far st k) × Bound st k (best far st k)
pick far st zero = (nobody, λ v l o. absurd (omega arith))
pick far st (suc k) = go (nearer b st k) refl (pick far st k)
  where
    b : ℕ
    b = best far st k

    go : (t : Bool) → nearer b st k ≡ t → Picked far st k b (who far st k) × Bound st k b →
        Picked far st (suc k) (cond t (st.dist k) b) (cond t (pos k) (who far st k)) × Bound st (suc k) (cond t (st.dist k) b)
    go true e (p, h) =
        let r = nearer_yes b st k e in
        (picked k (omega arith) r.1 (omega (arith, picked_below p)), bound_more st k b (st.dist k) h (omega arith) (λ o. omega arith))
    go false e (p, h) = (wider p, bound_more st k b b h (omega arith) (nearer_no b st k e))

-- No sum that a turn makes is above far + far.
pub sum_bound_is : (far : ℕ) (table : ℕ → ℕ → ℕ) (n : ℕ) → ((u j : ℕ) → u < n → j < n → table u j ≤ far) → (st : State) (j : ℕ) → j < n →
    best far st n + row_of far table (who far st n) j ≤ far + far
sum_bound_is far table n entry st j l = go (pick far st n).0
  where
    go : {b : ℕ} {w : ℤ} → Picked far st n b w → b + row_of far table w j ≤ far + far
    go nobody = omega arith
    go (picked u lu o d) = omega (arith, entry u j lu l)

-- ---- relaxing

-- The offer a is below b, and wins with its mark q; or b stays with its mark p.
data Contest (a b : ℕ) (q p : ℤ) (d : ℕ) (r : ℤ) : Type 0 where
  better : a < b → d ≡ a → r ≡ q → Contest a b q p d r
  kept : b ≤ a → d ≡ b → r ≡ p → Contest a b q p d r

contest : (a b : ℕ) (q p : ℤ) → Contest a b q p (cond (ltb a b) a b) (cond (ltb a b) q p)
contest a b q p = go (ltb a b) refl
  where
    go : (t : Bool) → ltb a b ≡ t → Contest a b q p (cond t a b) (cond t q p)
    go true e = better (ltb-true a b e) refl refl
    go false e = kept (ltb-false a b e) refl refl

-- ---- what holds after c turns

module _ (far limit n source : ℕ) (table : ℕ → ℕ → ℕ) where
  -- The mark of v is a closed vertex, whose edge to v costs the whole difference; of two closed vertices it is the lower in rank.
  record Marked (st : State) (rank : ℕ → ℕ) (v : ℕ) : Type 0 where
    from : ℕ
    inside : from < n
    shut : st.unseen from ≡ false
    marked : st.parent v ≡ pos from
    real : table from v ≢ far
    exact : st.dist v ≡ st.dist from + table from v
    falls : st.unseen v ≡ false → rank from < rank v

  record Inv (c : ℕ) (st : State) : Type 0 where
    start : st.dist source ≡ 0
    root : st.parent source ≡ negsuc 0
    low : (v : ℕ) → st.dist v ≤ far
    small : (v : ℕ) → v < n → st.dist v < far → st.dist v ≤ c * limit
    blank : (v : ℕ) → v < n → st.dist v ≡ far → st.parent v ≡ negsuc 0
    seen : (v : ℕ) → v < n → st.unseen v ≡ false → (st.dist v < far) × (st.dist v + limit ≤ c * limit)
    order : (u v : ℕ) → u < n → v < n → st.unseen u ≡ false → st.unseen v ≡ true → st.dist u ≤ st.dist v
    relaxed : (u j : ℕ) → u < n → j < n → st.unseen u ≡ false → st.dist j ≤ st.dist u + table u j
    rank : ℕ → ℕ
    ranked : (v : ℕ) → v < n → st.unseen v ≡ false → rank v < c
    marks : (v : ℕ) → v < n → st.dist v < far → v ≢ source → Marked st rank v
    filled : ((k : ℕ) → k < c → (v : ℕ) × (v < n) × (st.unseen v ≡ false) × (rank v ≡ k)) ⊎ Bound st n far

  begins : Inv 0 (begin far source)
  begins =
      record {
        start = rw (eq-eqb source source refl);
        root = refl;
        low = λ v. by_test (eqb v source) (λ e. rw e (omega arith)) (λ e. rw e (omega arith));
        small = λ v l h. by_test (eqb v source) (λ e. rw e (omega arith)) (λ e. absurd (unreached v e h));
        blank = λ v l e. refl;
        seen = λ v l e. absurd (true≢false e);
        order = λ u v lu lv e o. absurd (true≢false e);
        relaxed = λ u j lu lj e. absurd (true≢false e);
        rank = λ v. 0;
        ranked = λ v l e. absurd (true≢false e);
        marks = λ v l h ne. by_test (eqb v source) (λ e. absurd (ne (eqb-true v source e))) (λ e. absurd (unreached v e h));
        filled = inl (λ k l. absurd (omega arith));
      }
    where
      unreached : (v : ℕ) → eqb v source ≡ false → ¬ ((begin far source).dist v < far)
      unreached v e h = let k : far < far = rw e at h in omega arith

  module _ (entry : (u j : ℕ) → u < n → j < n → (table u j ≤ limit) ⊎ (table u j ≡ far)) where
    module _ (st : State) (c : ℕ) (i : Inv c st) where
      -- Nobody is left: nothing changes.
      idle : Bound st n far → Inv (suc c) (settle far (negsuc 0) (row_of far table (negsuc 0)) st)
      idle b = subst (Inv (suc c)) (λ j. record { dist = fun_ext d j; parent = fun_ext p j; unseen = st.unseen }) still
        where
          d : (v : ℕ) → st.dist v ≡ (settle far (negsuc 0) (row_of far table (negsuc 0)) st).dist v
          d v = rw (le-ltb (far + far) (st.dist v) (omega (arith, i.low v)))

          p : (v : ℕ) → st.parent v ≡ (settle far (negsuc 0) (row_of far table (negsuc 0)) st).parent v
          p v = rw (le-ltb (far + far) (st.dist v) (omega (arith, i.low v)))

          still : Inv (suc c) st
          still =
              record {
                start = i.start;
                root = i.root;
                low = i.low;
                small = λ v l h. omega (arith, i.small v l h);
                blank = i.blank;
                seen = λ v l o. omega (arith, i.seen v l o);
                order = i.order;
                relaxed = i.relaxed;
                rank = i.rank;
                ranked = λ v l o. omega (arith, i.ranked v l o);
                marks = i.marks;
                filled = inr b;
              }

      module _ (u : ℕ) (lu : u < n) (ou : st.unseen u ≡ true) (du : st.dist u < far) (least : Bound st n (st.dist u)) where
        abbrev next : State
        next = settle (st.dist u) (pos u) (row_of far table (pos u)) st

        offer : (j : ℕ) → Contest (st.dist u + table u j) (st.dist j) (pos u) (st.parent j) (next.dist j) (next.parent j)
        offer j = contest (st.dist u + table u j) (st.dist j) (pos u) (st.parent j)

        shrinks : (j : ℕ) → (next.dist j ≤ st.dist j) × (next.dist j ≤ st.dist u + table u j)
        shrinks j = elim (offer j) [ better a b e ↦ omega arith | kept a b e ↦ omega arith ]

        keeps : (j : ℕ) → st.dist j ≤ st.dist u + table u j → (next.dist j ≡ st.dist j) × (next.parent j ≡ st.parent j)
        keeps j l = elim (offer j) [ better a b e ↦ absurd (omega arith) | kept a b e ↦ (b, e) ]

        -- The closed vertices are the old ones and u.
        shut : (v : ℕ) → next.unseen v ≡ false → (st.unseen v ≡ false) ⊎ (v ≡ u)
        shut v o = by_test (eqb u v) (λ e. inr (sym (eqb-true u v e))) (λ e. inl (rw e at o))

        opened : (v : ℕ) → next.unseen v ≡ true → st.unseen v ≡ true
        opened v o = by_test (eqb u v) (λ e. absurd (true≢false (sym (rw e at o)))) (λ e. rw e at o)

        shuts : (v : ℕ) → st.unseen v ≡ false → next.unseen v ≡ false
        shuts v o = by_test (eqb u v) (λ e. rw e) (λ e. rw e o)

        shut_u : next.unseen u ≡ false
        shut_u = rw (eq-eqb u u refl)

        near : (v : ℕ) → v < n → next.unseen v ≡ false → st.dist v ≤ st.dist u
        near v l o = elim (shut v o) [ inl q ↦ i.order v u l lu q ou | inr e ↦ omega (arith, ap st.dist e) ]

        stays : (v : ℕ) → v < n → next.unseen v ≡ false → (next.dist v ≡ st.dist v) × (next.parent v ≡ st.parent v)
        stays v l o = keeps v (omega (arith, near v l o))

        edge : (j : ℕ) → j < n → st.dist u + table u j < st.dist j → table u j ≤ limit
        edge j l a = elim (entry u j lu l) [ inl h ↦ h | inr e ↦ absurd (omega (arith, i.low j)) ]

        -- u comes after all that were closed.
        rank : ℕ → ℕ
        rank v = cond (eqb u v) c (i.rank v)

        old_rank : (v : ℕ) → st.unseen v ≡ false → rank v ≡ i.rank v
        unfolding rank
        old_rank v o = rw (ne_eqb u v (λ e. true≢false (sym ou ∙ ap st.unseen e ∙ o)))

        new_rank : rank u ≡ c
        unfolding rank
        new_rank = rw (eq-eqb u u refl)

        marks : (v : ℕ) → v < n → next.dist v < far → v ≢ source → Marked next rank v
        marks v l h ne =
            elim (offer v) [
              | better a b e ↦ record {
                from = u;
                inside = lu;
                shut = shut_u;
                marked = e;
                real = omega (arith, i.low v);
                exact = omega (arith, stays u lu shut_u);
                falls = λ o. absurd (omega (arith, near v l o));
              }
              | kept a b e ↦
                  let t = i.marks v l (omega arith) ne in
                  let q = shuts t.from t.shut in
                  record {
                    from = t.from;
                    inside = t.inside;
                    shut = q;
                    marked = e ∙ t.marked;
                    real = t.real;
                    exact = omega (arith, stays t.from t.inside q, t.exact);
                    falls = λ o. elim (shut v o) [
                      | inl k ↦ omega (arith, old_rank t.from t.shut, old_rank v k, t.falls k)
                      | inr k ↦ omega (arith, old_rank t.from t.shut, i.ranked t.from t.inside t.shut, new_rank, ap rank k)
                    ];
                  }
            ]

        busy : Inv (suc c) next
        busy =
            record {
              start = omega (arith, shrinks source, i.start);
              root = (keeps source (omega (arith, i.start))).1 ∙ i.root;
              low = λ v. omega (arith, shrinks v, i.low v);
              small = λ v l h. elim (offer v) [
                | better a b e ↦ omega (arith, edge v l a, i.small u lu du)
                | kept a b e ↦ omega (arith, i.small v l (omega arith))
              ];
              blank = λ v l h. elim (offer v) [ better a b e ↦ absurd (omega (arith, i.low v)) | kept a b e ↦ e ∙ i.blank v l (omega arith) ];
              seen = λ v l o. omega (arith, near v l o, shrinks v, i.small u lu du);
              order = λ a b la lb oa ob.
                  let s = stays a la oa in
                  let r = near a la oa in
                  elim (offer b) [ better p q e ↦ omega arith | kept p q e ↦ omega (arith, least b lb (opened b ob)) ];
              relaxed = λ a j la lj o.
                  let s = stays a la o in
                  elim (shut a o) [
                    | inl q ↦ omega (arith, i.relaxed a j la lj q, shrinks j)
                    | inr e ↦ omega (arith, shrinks j, ap st.dist e, ap (λ (x : ℕ). table x j) e)
                  ];
              rank = rank;
              ranked = λ v l o. elim (shut v o) [ inl q ↦ omega (arith, old_rank v q, i.ranked v l q) | inr e ↦ omega (arith, new_rank, ap rank e) ];
              marks = marks;
              filled = elim i.filled [
                | inl f ↦ inl (λ k l. elim (ℕ_discrete k c) [
                  | yes e ↦ (u, lu, shut_u, new_rank ∙ sym e)
                  | no e ↦ let (v, lv, o, r) = f k (omega arith) in (v, lv, shuts v o, old_rank v o ∙ r)
                ])
                | inr b ↦ absurd (omega (arith, b u lu ou))
              ];
            }

    throughout : (c : ℕ) → Inv c (turns far table n source c)
    throughout zero = begins
    throughout (suc c) = go (throughout c) (pick far st n).0 (pick far st n).1
      where
        st : State
        st = turns far table n source c

        go : Inv c st → {b : ℕ} {w : ℤ} → Picked far st n b w → Bound st n b → Inv (suc c) (settle b w (row_of far table w) st)
        go i nobody h = idle st c i h
        go i (picked u l o d) h = busy st c i u l o d h

    module _ (room : n * limit < far) where
      -- What a turn adds to the nearest distance: where both are there, their total is below far.
      pub totals_below : (t : ℕ) → t < n → (j : ℕ) → j < n →
          (best far (turns far table n source t) n ≡ far)
          ⊎ (row_of far table (who far (turns far table n source t) n) j ≡ far)
          ⊎ (best far (turns far table n source t) n + row_of far table (who far (turns far table n source t) n) j < far)
      totals_below t lt j l = go (pick far st n).0
        where
          st : State
          st = turns far table n source t

          go : {b : ℕ} {w : ℤ} → Picked far st n b w → (b ≡ far) ⊎ (row_of far table w j ≡ far) ⊎ (b + row_of far table w j < far)
          go nobody = inl refl
          go (picked u lu o d) =
              elim (entry u j lu l) [
                | inl q ↦ inr (inr (omega (arith, (throughout t).small u lu d, mul-le-mul_right {m = suc t} {n = n} limit lt)))
                | inr q ↦ inr (inl q)
              ]

      abbrev end : State
      end = turns far table n source n

      inv : Inv n end
      inv = throughout n

      -- An open vertex would be one more than the n that were closed.
      crowded : ((k : ℕ) → k < n → (v : ℕ) × (v < n) × (end.unseen v ≡ false) × (inv.rank v ≡ k)) → (v : ℕ) → v < n → end.unseen v ≡ true → ⊥
      crowded f v l o = let (i, j, lt, le, e) = pigeon n (λ k. (at k).0) (λ k q. (at k).1) in clash i j lt le e (at i).2 (at j).2
        where
          at : (k : ℕ) → (w : ℕ) × (w < n) × (((end.unseen w ≡ false) × (inv.rank w ≡ k)) ⊎ ((n ≤ k) × (w ≡ v)))
          at k = elim (dec_lt k n) [ yes q ↦ let (w, lw, ow, r) = f k q in (w, lw, inl (ow, r)) | no q ↦ (v, l, inr (omega arith, refl)) ]

          clash : (i j : ℕ) → i < j → j ≤ n → (at i).0 ≡ (at j).0 →
              ((end.unseen (at i).0 ≡ false) × (inv.rank (at i).0 ≡ i)) ⊎ ((n ≤ i) × ((at i).0 ≡ v)) →
              ((end.unseen (at j).0 ≡ false) × (inv.rank (at j).0 ≡ j)) ⊎ ((n ≤ j) × ((at j).0 ≡ v)) → ⊥
          clash i j lt le e (inr p) q = omega arith
          clash i j lt le e (inl p) (inl q) = omega (arith, ap inv.rank e)
          clash i j lt le e (inl p) (inr q) = true≢false (sym o ∙ ap end.unseen (sym (e ∙ q.1)) ∙ p.0)

      -- After n turns a reached vertex is closed.
      settled : (v : ℕ) → v < n → end.dist v < far → end.unseen v ≡ false
      settled v l h = by_test (end.unseen v) (λ o. absurd (elim inv.filled [ inl f ↦ crowded f v l o | inr b ↦ omega (arith, b v l o) ])) (λ o. o)

      closed : Closed (table_network far n table) (pos far) (λ v. pos (end.dist v))
      closed e (lf, lt, ne, w) h =
          let d : end.dist e.from < far = omega arithℤ in
          let o = settled e.from lf d in
          let r = inv.relaxed e.from e.to lf lt o in
          let k : table e.from e.to ≤ limit = elim (entry e.from e.to lf lt) [ inl q ↦ q | inr q ↦ absurd (ne q) ] in
          let q = inv.seen e.from lf o in
          rw w (omega arithℤ)

      marked : Ranked (table_network far n table) from_vertex (pos far) n source (λ v. pos (end.dist v)) end.parent
      marked =
          record {
            rank = inv.rank;
            each = λ v l h ne.
                let d : end.dist v < far = omega arithℤ in
                let t = inv.marks v l d ne in
                record {
                  mark = t.from;
                  marked = t.marked;
                  edge = record { from = t.from; to = v; weight = pos (table t.from v) };
                  real = (t.inside, l, t.real, refl);
                  named = refl;
                  ends = refl;
                  reached = omega (arithℤ, t.exact);
                  covers = omega (arithℤ, t.exact);
                  falls = λ q. t.falls (settled v l d);
                };
          }

      pub dijkstra : Shortest (table_network far n table) from_vertex (pos far) n source (λ v. pos ((turns far table n source n).dist v)) (turns far table n source n).parent
      dijkstra =
          parents.shortest (table_network far n table) from_vertex (pos far) n source (λ v. pos (end.dist v)) end.parent
          (λ e h. (h.0, h.1)) closed marked (omega arithℤ) (ap pos inv.start)
          (λ v l. omega (arithℤ, inv.low v)) inv.root (λ v l (e : pos (end.dist v) ≡ pos far). inv.blank v l (omega arithℤ))

-- ---- a table has no negative cycle

module _ (far n : ℕ) (table : ℕ → ℕ → ℕ) where
  not_negative : (es : List Edge) (u v : ℕ) → Chain (table_network far n table) u es v → pos 0 ≤ℤ total es
  not_negative [] u v c = omega arithℤ
  not_negative (e ∷ es) u v c = omega (arithℤ, c.0.3, not_negative es e.to v c.2, sum e.weight (total es))

  pub no_negative_cycle : (source : ℕ) → ¬ NegativeCycle (table_network far n table) source
  no_negative_cycle source z = omega (arithℤ, z.negative, not_negative z.cycle z.at z.at z.closed)
