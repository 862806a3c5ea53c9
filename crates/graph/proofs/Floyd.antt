-- Floyd-Warshall finds a negative cycle where there is one, and else the least totals.
-- Rests on walks and on distances without parents.
use mathlib.Core.Path.{◌≡◌, refl, sym, ap, ◌∙◌}
use mathlib.Core.Logic.{◌⊎◌, inl, inr, ◌↔◌}
use mathlib.Core.Bool.{Bool, true, false}
use mathlib.Core.List.{List, [], ◌∷◌, ◌++◌}
use Prim.Native.Nat.{ℕ, zero, suc, ◌+◌, ◌-◌, ◌<◌, ◌≤◌}
use native.Mathlib.Omega.{arith}
use native.Mathlib.Decide.{ℕ_discrete}
use borrow.Author.Tests.{eqb-true, eq-eqb}
use lib.Dec.{eqb}
use lib.IntN.{ℤ, pos, nat_abs, ◌+ℤ◌}
use lib.Signed.{lt_z, ◌≤ℤ◌, ◌<ℤ◌}
use Rattle.lists.proofs.Test.{by_test, any_no, any_yes}
use Rattle.graph.specs.Walk.{Edge, Network, Chain, total, NegativeCycle, Below}
use Rattle.graph.specs.Shortest.{Distances}
use Rattle.graph.specs.BellmanFord.{network}
use Rattle.graph.specs.Floyd.{Table, update, column, row, edges, stages, floyd, Anywhere, negative, marked, doubled, Room}
use Rattle.graph.proofs.Int.{arithℤ, sum, abs, abs_add, lt_z_true, lt_z_false}
use Rattle.graph.proofs.Walk.{WalkOf, total_append, chain_append, short}
use Rattle.graph.proofs.Certificate.{undercut_by_none}

-- ---- an update

module _ (c r : ℕ → ℤ) (d : Table) where
  data Updated (i j : ℕ) (e : ℤ) : Type 0 where
    lowered : (c i +ℤ r j) <ℤ d i j → e ≡ c i +ℤ r j → Updated i j e
    kept : d i j ≤ℤ (c i +ℤ r j) → e ≡ d i j → Updated i j e

  updated : (i j : ℕ) → Updated i j (update c r d i j)
  updated i j = by_test (lt_z (c i +ℤ r j) (d i j)) (λ e. rw e (lowered (lt_z_true e) refl)) (λ e. rw e (kept (lt_z_false e) refl))

  falls : (i j : ℕ) → update c r d i j ≤ℤ d i j
  falls i j = elim (updated i j) [ lowered h e ↦ omega arithℤ | kept h e ↦ omega arithℤ ]

  covers : (i j : ℕ) → update c r d i j ≤ℤ (c i +ℤ r j)
  covers i j = elim (updated i j) [ lowered h e ↦ omega arithℤ | kept h e ↦ omega arithℤ ]

-- ---- the diagonal

abbrev below_zero : Table → ℕ → Bool
below_zero d v = lt_z (d v v) (pos 0)

negative_yes : (k : ℕ) (d : Table) → negative k d ≡ true → (i : ℕ) × (i < k) × (d i i <ℤ pos 0)
negative_yes k d e = let r = any_yes (below_zero d) (λ k. negative k d) refl (λ k. refl) k e in (r.0, r.1, lt_z_true r.2)

negative_no : (k : ℕ) (d : Table) → negative k d ≡ false → (i : ℕ) → i < k → pos 0 ≤ℤ d i i
negative_no k d e i l = lt_z_false (any_no (below_zero d) (λ k. negative k d) refl (λ k. refl) k e i l)

-- ---- the triangle inequality over a pivot

abbrev Triangle : Table → ℕ → Type 0
Triangle d l = (i j : ℕ) → d i j ≤ℤ (d i l +ℤ d l j)

-- An update keeps it, if what is added keeps it too and no circle over l is negative.
triangle_kept : (c r : ℕ → ℤ) (d : Table) (l : ℕ) → Triangle d l → ((i : ℕ) → c i ≤ℤ (d i l +ℤ c l)) → ((j : ℕ) → r j ≤ℤ (r l +ℤ d l j)) →
    pos 0 ≤ℤ (c l +ℤ r l) → Triangle (update c r d) l
triangle_kept c r d l t tc tr h i j =
    elim (updated c r d i l) [
      | kept p e ↦ elim (updated c r d l j) [
        | kept q f ↦ omega (arithℤ, falls c r d i j, t i j, sum (d i l) (d l j), sum (update c r d i l) (update c r d l j))
        | lowered q f ↦
            omega (arithℤ, covers c r d i j, tc i, sum (c i) (r j), sum (d i l) (c l), sum (c l) (r j), sum (update c r d i l) (update c r d l j))
      ]
      | lowered p e ↦ elim (updated c r d l j) [
        | kept q f ↦
            omega (arithℤ, covers c r d i j, tr j, sum (c i) (r j), sum (r l) (d l j), sum (c i) (r l), sum (update c r d i l) (update c r d l j))
        | lowered q f ↦
            omega (arithℤ, covers c r d i j, sum (c i) (r j), sum (c l) (r l), sum (c i) (r l), sum (c l) (r j), sum (update c r d i l) (update c r d l j))
      ]
    ]

-- The update over the pivot k makes it hold there: column and row k do not move.
triangle_made : (d : Table) (k : ℕ) → pos 0 ≤ℤ d k k → Triangle (update (λ i. d i k) (λ j. d k j) d) k
triangle_made d k h i j =
    omega (
      arithℤ,
      covers (λ i. d i k) (λ j. d k j) d i j,
      still_column,
      still_row,
      sum (d i k) (d k j),
      sum (update (λ i. d i k) (λ j. d k j) d i k) (update (λ i. d i k) (λ j. d k j) d k j),
    )
  where
    still_column : d i k ≤ℤ update (λ i. d i k) (λ j. d k j) d i k
    still_column = elim (updated (λ i. d i k) (λ j. d k j) d i k) [ lowered p e ↦ omega (arithℤ, sum (d i k) (d k k)) | kept p e ↦ omega arithℤ ]

    still_row : d k j ≤ℤ update (λ i. d i k) (λ j. d k j) d k j
    still_row = elim (updated (λ i. d i k) (λ j. d k j) d k j) [ lowered p e ↦ omega (arithℤ, sum (d k k) (d k j)) | kept p e ↦ omega arithℤ ]

-- ---- where an entry may lie

-- A walk's total from -b to b, or at most b below `high`.
data Band (net : Network) (high b i j : ℕ) (e : ℤ) : Type 0 where
  walk : WalkOf net i j e → nat_abs e ≤ b → Band net high b i j e
  none : pos high ≤ℤ (e +ℤ pos b) → e ≤ℤ pos high → Band net high b i j e

-- From `most` below 0 to `high`.
abbrev pub Within : (most high : ℕ) → ℤ → Type 0
Within most high e = (pos 0 ≤ℤ (e +ℤ pos most)) × (e ≤ℤ pos high)

module _ (net : Network) (high : ℕ) where
  band_within : (b most i j : ℕ) (e : ℤ) → b ≤ most → b ≤ high → Band net high b i j e → Within most high e
  band_within b most i j e p q (walk w h) = (omega (arithℤ, abs e, sum e (pos most)), omega (arithℤ, abs e))
  band_within b most i j e p q (none h k) = (omega (arithℤ, sum e (pos b), sum e (pos most)), k)

  wider : (b b' i j : ℕ) (e : ℤ) → b ≤ b' → Band net high b i j e → Band net high b' i j e
  wider b b' i j e l (walk w h) = walk w (omega arith)
  wider b b' i j e l (none h k) = none (omega (arithℤ, sum e (pos b), sum e (pos b'))) k

  joined : (a b k i j : ℕ) (x y : ℤ) → (x +ℤ y) ≤ℤ pos high → Band net high a i k x → Band net high b k j y → Band net high (a + b) i j (x +ℤ y)
  joined a b k i j x y l (walk v f) (walk w g) =
      walk
      (v.0 ++ w.0, chain_append net v.0 w.0 i k j v.1 w.1, total_append v.0 w.0 ∙ ap (λ (z : ℤ). z +ℤ total w.0) v.2 ∙ ap (λ (z : ℤ). x +ℤ z) w.2)
      (omega (arith, abs_add x y))
  joined a b k i j x y l (walk v f) (none g g') = none (omega (arithℤ, abs x, sum x y, sum y (pos b), sum (x +ℤ y) (pos (a + b)))) l
  joined a b k i j x y l (none f f') (walk w g) = none (omega (arithℤ, abs y, sum x y, sum x (pos a), sum (x +ℤ y) (pos (a + b)))) l
  joined a b k i j x y l (none f f') (none g g') = none (omega (arithℤ, sum x y, sum x (pos a), sum y (pos b), sum (x +ℤ y) (pos (a + b)))) l

  still_band : (c r : ℕ → ℤ) (d : Table) (a b t k i j : ℕ) → a + b ≤ t → t ≤ high → Band net high a i k (c i) → Band net high b k j (r j) → Band net high t i j (d i j) →
      Band net high t i j (update c r d i j)
  still_band c r d a b t k i j s l p q o =
      elim (updated c r d i j) [
        | lowered h e ↦
            let small : (c i +ℤ r j) ≤ℤ pos high = omega (arithℤ, (band_within t t i j (d i j) (omega arith) l o).1) in
            rw e (wider (a + b) t i j (c i +ℤ r j) s (joined a b k i j (c i) (r j) small p q))
        | kept h e ↦ rw e o
      ]

pub doubled_none : (x : ℕ) → doubled x 0 ≡ x
unfolding doubled
doubled_none x = refl

pub doubled_more : (x k : ℕ) → doubled x (suc k) ≡ doubled x k + doubled x k
unfolding doubled
doubled_more x k = refl

pub doubled_most : (limit k n : ℕ) → k ≤ n → doubled limit k ≤ doubled limit n
unfolding doubled
doubled_most limit k zero l = rw (let e : k ≡ 0 = omega arith in e) (omega arith)
doubled_most limit k (suc n) l = elim (ℕ_discrete k (suc n)) [ yes e ↦ rw e (omega arith) | no d ↦ omega (arith, doubled_most limit k n (omega arith)) ]

module _ (edge : ℕ → Edge) (m n limit far high : ℕ) (below : Below (network edge m) n)
    (weights : (i : ℕ) → i < m → nat_abs (edge i).weight ≤ limit) (room : Room n limit far high) where
  abbrev net : Network
  net = network edge m

  abbrev c : ℕ → ℕ → ℤ
  c = column edge (pos high)

  abbrev r : ℕ → ℕ → ℤ
  r = row edge (pos high)

  abbrev laid : ℕ → Table
  laid = edges edge (pos high)

  abbrev at : ℕ → Table
  at = stages edge (pos high) m

  column_band : (l i : ℕ) → Band net high 0 i (edge l).from (c l i)
  column_band l i =
      by_test (eqb (edge l).from i) (λ e. rw e (walk ([], sym (eqb-true (edge l).from i e), refl) (omega arith)))
      (λ e. rw e (none (omega (arithℤ, sum (pos high) (pos 0))) (omega arithℤ)))

  row_band : (l j : ℕ) → l < m → Band net high limit (edge l).from j (r l j)
  row_band l j h =
      by_test (eqb (edge l).to j)
      (λ e. rw e (walk (edge l ∷ [], ((l, h, refl), refl, eqb-true (edge l).to j e), omega (arithℤ, sum (edge l).weight (pos 0))) (weights l h)))
      (λ e. rw e (none (omega (arithℤ, sum (pos high) (pos limit))) (omega arithℤ)))

  doubled_high : (k : ℕ) → k ≤ n → doubled limit k ≤ high
  doubled_high k l = omega (arith, doubled_most limit k n l, room.apart)

  edges_band : (l i j : ℕ) → l ≤ m → Band (network edge m) high limit i j (edges edge (pos high) l i j)
  unfolding doubled
  edges_band zero i j h =
      by_test (eqb i j) (λ e. rw e (walk ([], eqb-true i j e, refl) (omega arith)))
      (λ e. rw e (none (omega (arithℤ, sum (pos high) (pos limit))) (omega arithℤ)))
  edges_band (suc l) i j h =
      still_band net high (c l) (r l) (laid l) 0 limit limit (edge l).from i j
      (omega arith) (doubled_high 0 (omega arith)) (column_band l i) (row_band l j h) (edges_band l i j (omega arith))

  stages_band : (k : ℕ) → k ≤ n → (i j : ℕ) → Band (network edge m) high (doubled limit k) i j (stages edge (pos high) m k i j)
  unfolding doubled
  stages_band zero h i j = edges_band m i j (omega arith)
  stages_band (suc k) h i j =
      let s = doubled limit k in
      let p = stages_band k (omega arith) in
      still_band net high (λ i. at k i k) (λ j. at k k j) (at k) s s (s + s) k i j (omega arith) (doubled_high (suc k) h) (p i k) (p k j)
      (wider net high s (s + s) i j (at k i j) (omega arith) (p i j))

  -- So what a stage or an edge adds lies there, whether or not there is a negative cycle.
  in_band : (b i j : ℕ) (e : ℤ) → b ≤ doubled limit (n - 1) → Band net high b i j e → Within (doubled limit (n - 1)) high e
  in_band b i j e l o =
      band_within net high b (doubled limit (n - 1)) i j e l (omega (arith, doubled_most limit (n - 1) n (omega arith), room.apart)) o

  pub column_within : (l i : ℕ) → Within (doubled limit (n - 1)) high (column edge (pos high) l i)
  column_within l i = in_band 0 i (edge l).from (c l i) (omega arith) (column_band l i)

  pub row_within : (l : ℕ) → l < m → (j : ℕ) → Within (doubled limit (n - 1)) high (row edge (pos high) l j)
  unfolding doubled
  row_within l h j = in_band limit (edge l).from j (r l j) (doubled_most limit 0 (n - 1) (omega arith)) (row_band l j h)

  pub stage_within : (k : ℕ) → k < n → (i j : ℕ) → Within (doubled limit (n - 1)) high (stages edge (pos high) m k i j)
  stage_within k h i j = in_band (doubled limit k) i j (at k i j) (doubled_most limit k (n - 1) (omega arith)) (stages_band k (omega arith) i j)

  -- ---- entries fall

  stages_fall : (k l i j : ℕ) → k ≤ l → stages edge (pos high) m l i j ≤ℤ stages edge (pos high) m k i j
  stages_fall k zero i j h = rw (let e : k ≡ 0 = omega arith in e) (omega arithℤ)
  stages_fall k (suc l) i j h =
      elim (ℕ_discrete k (suc l)) [
        | yes e ↦ rw e (omega arithℤ)
        | no d ↦ omega (arithℤ, falls (λ i. at l i l) (λ j. at l l j) (at l) i j, stages_fall k l i j (omega arith))
      ]

  edges_diagonal : (l i : ℕ) → laid l i i ≤ℤ pos 0
  edges_diagonal zero i = rw (eq-eqb i i refl) (omega arithℤ)
  edges_diagonal (suc l) i = omega (arithℤ, falls (c l) (r l) (laid l) i i, edges_diagonal l i)

  edges_cover : (k l : ℕ) → l < k → laid k (edge l).from (edge l).to ≤ℤ (edge l).weight
  edges_cover zero l h = absurd (omega arith)
  edges_cover (suc k) l h =
      elim (ℕ_discrete l k) [
        | yes e ↦ rw e now
        | no d ↦ omega (arithℤ, falls (c k) (r k) (laid k) (edge l).from (edge l).to, edges_cover k l (omega arith))
      ]
    where
      free : c k (edge k).from ≡ pos 0
      free = rw (eq-eqb (edge k).from (edge k).from refl) refl

      paid : r k (edge k).to ≡ (edge k).weight
      paid = rw (eq-eqb (edge k).to (edge k).to refl) refl

      now : laid (suc k) (edge k).from (edge k).to ≤ℤ (edge k).weight
      now =
          omega (arithℤ, covers (c k) (r k) (laid k) (edge k).from (edge k).to, free, paid, sum (c k (edge k).from) (r k (edge k).to))

  module _ (whole : negative n (floyd edge (pos high) n m) ≡ false) where
    -- None is negative at the end, so none was before.
    diagonal : (k i : ℕ) → k ≤ n → i < n → pos 0 ≤ℤ at k i i
    diagonal k i h l = omega (arithℤ, negative_no n (at n) whole i l, stages_fall k n i i h)

    -- Of the pivots done.
    triangle : (k l : ℕ) → k ≤ n → l < k → Triangle (stages edge (pos high) m k) l
    triangle zero l h q = absurd (omega arith)
    triangle (suc k) l h q =
        elim (ℕ_discrete l k) [
          | yes e ↦ rw e (triangle_made (at k) k (diagonal k k (omega arith) h))
          | no d ↦
              let t = triangle k l (omega arith) (omega arith) in
              triangle_kept (λ i. at k i k) (λ j. at k k j) (at k) l t (λ i. t i k) (λ j. t k j)
              (omega (arithℤ, t k k, diagonal k k (omega arith) h, sum (at k k l) (at k l k), sum (at k l k) (at k k l)))
        ]

    -- No walk costs less than its entry.
    least : (es : List Edge) (i j : ℕ) → Chain (network edge m) i es j → floyd edge (pos high) n m i j ≤ℤ total es
    least [] i j c = rw (← c) (omega (arithℤ, stages_fall 0 n i i (omega arith), edges_diagonal m i))
    least (e ∷ es) i j c =
        let ends = below e c.0 in
        omega (
          arithℤ,
          first c.0,
          ap (λ (v : ℕ). at n v e.to) c.1,
          least es e.to j c.2,
          triangle n e.to (omega arith) ends.1 i j,
          sum (at n i e.to) (at n e.to j),
          sum e.weight (total es),
        )
      where
        first : net e → at n e.from e.to ≤ℤ e.weight
        first (l, h, q) = rw q (omega (arithℤ, stages_fall 0 n (edge l).from (edge l).to (omega arith), edges_cover m l h))

    cycle_free : (s : ℕ) → ¬ NegativeCycle net s
    cycle_free s z = go z.cycle z.closed z.negative
      where
        go : (es : List Edge) → Chain net z.at es z.at → total es <ℤ pos 0 → ⊥
        go [] c h = omega arithℤ
        go (e ∷ es) c h =
            omega (arithℤ, least (e ∷ es) z.at z.at c, diagonal n z.at (omega arith) (rw c.1 at (below e c.0).0))

  -- ---- the theorems

  -- An entry that is not over `far` is a walk's total.
  found : (i j : ℕ) → at n i j ≤ℤ pos far → WalkOf net i j (at n i j)
  found i j h =
      elim (stages_band n (omega arith) i j) [
        | walk w l ↦ w
        | none l k ↦ absurd (omega (arithℤ, room.apart, sum (at n i j) (pos (doubled limit n))))
      ]

  pub negative_cycle : (negative n (floyd edge (pos high) n m) ≡ true) ↔ Anywhere (network edge m) n
  negative_cycle = (
    λ e.
        let r = negative_yes n (at n) e in
        let w = found r.0 r.0 (omega (arithℤ, r.2)) in
        (r.0, r.1, record { at = r.0; lead = []; leads = refl; cycle = w.0; closed = w.1; negative = omega (arithℤ, w.2, r.2) }),
    λ z. by_test (negative n (at n)) (λ e. e) (λ e. absurd (cycle_free e z.0 z.2)),
  )

  pub no_cycle : (negative n (floyd edge (pos high) n m) ≡ false) ↔ ¬ Anywhere (network edge m) n
  no_cycle = (λ e z. cycle_free e z.0 z.2, λ f. by_test (negative n (at n)) (λ e. absurd (f (negative_cycle.0 e))) (λ e. e))

  pub distances : negative n (floyd edge (pos high) n m) ≡ false → (i : ℕ) → i < n →
      Distances (network edge m) (pos far) n i (marked (pos far) (floyd edge (pos high) n m) i)
  distances e i l =
      undercut_by_none net (pos far) n i (marked (pos far) (at n) i)
      (λ v h. elim (kept_or v) [ inl q ↦ omega arithℤ | inr q ↦ omega (arithℤ, q.1) ])
      (λ v h k. elim (kept_or v) [ inl q ↦ absurd (omega arithℤ) | inr q ↦ rw q.0 (found i v q.1) ])
      (λ es v h c.
      let t = short net limit (λ f (x, y, z). rw z (weights x y)) n below i l (cycle_free e i) es v c in
      let k = least e t.0 i v t.1 in
      elim (kept_or v) [
        | inl q ↦ absurd (omega (arithℤ, room.near, abs (total t.0), t.3))
        | inr q ↦ (omega (arithℤ, room.near, abs (total t.0), t.3, q.0), omega (arithℤ, q.0, t.2))
      ])
    where
      kept_or : (v : ℕ) → ((marked (pos far) (at n) i v ≡ pos far) × (pos far <ℤ at n i v)) ⊎ ((marked (pos far) (at n) i v ≡ at n i v) × (at n i v ≤ℤ pos far))
      kept_or v = by_test (lt_z (pos far) (at n i v)) (λ q. inl (rw q (refl, lt_z_true q))) (λ q. inr (rw q (refl, lt_z_false q)))
