-- Method 4's plan on named stores is Floyd-Warshall, with the flag raised where the diagonal has a negative entry.
-- Rests on stores, names, bits and filled tables, and on graph's bounds of entries.
use mathlib.Core.Path.{◌≡◌, refl, sym, ap, ◌∙◌}
use mathlib.Core.Bool.{Bool, true, false, cond, not, ◌&&◌, or-true, or-false}
use Prim.Native.Nat.{ℕ, zero, suc, ◌+◌, ◌-◌, ◌*◌, ◌<◌, ◌≤◌}
use native.Mathlib.Nat.{add-zero}
use native.Mathlib.Omega.{arith}
use borrow.Author.Tests.{eq-eqb, ne_eqb, eqb-true, lt-ltb, le-ltb}
use lib.Dec.{eqb}
use lib.IntN.{ℤ, pos, nat_abs, ◌+ℤ◌}
use lib.Signed.{lt_z, ◌≤ℤ◌}
use Rattle.lists.proofs.Test.{by_test}
use Rattle.machine.specs.Instruction.{Instruction}
use Rattle.machine.specs.Effect.{bit, both, wrap_add}
use Rattle.plans.specs.declared.Counters.{Counters}
use Rattle.plans.specs.Outline.{outer, Outline, counted_to, start, instructions}
use Rattle.plans.specs.Method4 as Method4
use Rattle.plans.specs.Method4.{from, to, weight, D, C, R, Y, X, lay, stage, plan}
use Rattle.graph.specs.Walk.{Edge, Below}
use Rattle.graph.specs.BellmanFord.{network}
use Rattle.graph.specs.Floyd as Floyd
use Rattle.graph.specs.Floyd.{Table, update, column, row, edges, stages, floyd, negative, marked, doubled}
use Rattle.graph.proofs.Int.{arithℤ, sum, abs_most}
use Rattle.graph.proofs.Floyd.{Within, doubled_none, doubled_more, doubled_most, column_within, row_within, stage_within}
use Rattle.methods.specs.Edges.{Limited}
use Rattle.methods.specs.Method4.{high, Room}
use Rattle.methods.proofs.Steps.{Claim, Kind, Runs, loop}
use Rattle.methods.proofs.Stores.{numbers}
use Rattle.methods.proofs.Names.{Name, same, pair, Store}
use Rattle.methods.proofs.Bits.{pick_bit, sum_exact}
use Rattle.methods.proofs.Filled.{upto, upto_zero, upto_all, upto_suc, fill_none, fill, fill_over, entry_same, Rows, rows_none, rows_place, rows_next, rows_at, Rewritten, rewrite_none, rewrite_place, rewrite_next}
use Rattle.methods.proofs.OverEdges.{EdgesAt, ends_below}

-- ---- sums and steps

module _ (far limit n : ℕ) where
  -- How far below 0 an entry may lie that is added.
  abbrev pub most : ℕ
  most = doubled limit (n - 1)

  abbrev pub Sum : ℤ → ℤ → Type 0
  Sum x w = Within most (high far) x × Within most (high far) w

  -- The instructions as steps on named stores.
  abbrev pub steps : Kind (Instruction Name) Store
  steps = numbers same Sum

  module _ (room : Room far limit n) where
    size : (x : ℤ) → Within most (high far) x → nat_abs x ≤ high far
    size x (low, up) = abs_most x (high far) (omega arithℤ) (omega (arithℤ, sum x (pos most), doubled_most limit (n - 1) n (omega arith), room.tables.apart))

    pub exact : (x w : ℤ) → Sum x w → wrap_add x w ≡ x +ℤ w
    exact x w (p, q) = sum_exact x w (omega (arith, size x p, size w q, room.fits))

    -- A small natural number is within.
    natural : (k : ℕ) → k ≤ high far → Within most (high far) (pos k)
    natural k l = (omega (arithℤ, sum (pos k) (pos most)), omega arithℤ)

  pub bounds : 0 < n → (x w : ℤ) → Sum x w → (pos 0 ≤ℤ ((x +ℤ w) +ℤ pos (doubled limit n))) × ((x +ℤ w) ≤ℤ pos (high far + high far))
  bounds some x w ((a, b), (c, d)) =
      let twice : doubled limit n ≡ most + most = ap (doubled limit) (omega arith) ∙ doubled_more limit (n - 1) in
      (omega (arithℤ, sum x w, sum x (pos most), sum w (pos most), sum (x +ℤ w) (pos (doubled limit n))), omega (arithℤ, sum x w))

-- ---- negative entries of the diagonal, counted

abbrev count : ℕ → Table → ℕ
count zero d = 0
count (suc v) d = count v d + cond (lt_z (d v v) (pos 0)) 1 0

count_most : (k : ℕ) (d : Table) → count k d ≤ k
count_most zero d = omega arith
count_most (suc k) d = by_test (lt_z (d k k) (pos 0)) (λ e. rw e (omega (arith, count_most k d))) (λ e. rw e (omega (arith, count_most k d)))

-- There are some exactly where one is negative.
count_some : (k : ℕ) (d : Table) → eqb (count k d) 0 ≡ not (negative k d)
count_some zero d = refl
count_some (suc k) d =
    by_test (lt_z (d k k) (pos 0))
    (λ e. rw (e, or-true (negative k d)) (ne_eqb (count k d + 1) 0 (λ z. omega arith)))
    (λ e. rw (e, or-false (negative k d), add-zero (count k d)) (count_some k d))

raised : (k : ℕ) (d : Table) → both (pos (count k d)) (pos (count k d)) ≡ bit (negative k d)
unfolding both
raised k d = rw (count_some k d) (ap bit (twice (negative k d)))
  where
    twice : (b : Bool) → (not (not b) && not (not b)) ≡ b
    twice true = refl
    twice false = refl

bit_is : (b : Bool) → bit b ≡ pos (cond b 1 0)
unfolding bit
bit_is true = refl
bit_is false = refl

-- ---- what a store holds

abbrev pub Given : (edge : ℕ → Edge) (m : ℕ) → Store → Type 0
Given = EdgesAt from to weight

-- What stands for no walk.
abbrev pub top : (far : ℕ) → ℤ
top far = pos (high far)

-- The table, by rows.
abbrev pub Entries : (n : ℕ) → Table → Store → Type 0
Entries n d s = (i j : ℕ) → i < n → j < n → s (D (i * n + j)) ≡ d i j

-- The first k places of a column and of a row.
abbrev Holding : (c r : ℕ → ℤ) (k : ℕ) → Store → Type 0
Holding c r k s = ((v : ℕ) → v < k → s (C v) ≡ c v) × ((v : ℕ) → v < k → s (R v) ≡ r v)

module _ (far : ℕ) (edge : ℕ → Edge) (n m : ℕ) where
  -- What no update writes. A record type with no name: a proof for a store is, by computation, one for the store after other writes.
  abbrev Fixed : Store → Type 0
  Fixed s =
      record {
        edges : Given edge m s;
        vertex : (v : ℕ) → v < n → s (Y v) ≡ pos v;
        mark : s (X 0) ≡ pos far;
        blank : s (X 1) ≡ top far;
        zero : s (X 2) ≡ pos 0;
        none : s (X 5) ≡ pos 0;
      }

  -- And the table.
  abbrev Holds : Table → Store → Type 0
  Holds d s = Fixed s × Entries n d s

module _ (far limit : ℕ) (edge : ℕ → Edge) (n m : ℕ) (room : Room far limit n) (limited : Limited limit edge n m) where
  abbrev Does : Outline → Counters → Claim Store → Claim Store
  Does o k = Runs (steps far limit n) (instructions pair (pos far) n m 0 o k)

  -- ---- an update

  module _ (c r : ℕ → ℤ) (d : Table) (c_in : (i : ℕ) → Within (most far limit n) (high far) (c i))
      (r_in : (j : ℕ) → Within (most far limit n) (high far) (r j)) where
    abbrev Updating : (i j : ℕ) → Store → Type 0
    Updating i j t = Fixed far edge n m t × Holding c r n t × Rewritten n i j (update c r d) d (λ p. t (D p))

    update_runs : (k : Counters) (s : Store) → Holds far edge n m d s → Holding c r n s
        → Does Method4.update k (Holds far edge n m (update c r d)) s
    unfolding instructions
    update_runs k s (f, e) b =
        loop (steps far limit n) (λ i. Updating i 0) n _ _ _ (f, b, rewrite_none e)
        (λ i t l h.
        loop (steps far limit n) (Updating i) n _ _ _ h
        (λ j t q (f, b, w).
        let ci = b.0 i l in
        let rj = b.1 j q in
        let sums = exact far limit n room (c i) (r j) (c_in i, r_in j) in (
          rw (ci, rj) (c_in i, r_in j),
          (f, b, rewrite_place j l q (λ old. simp (pick_bit, ci, rj, sums, old)) w),
        ))
        (λ t (f, b, w). (f, b, rewrite_next w)))
        (λ t (f, b, w). (f, λ i j l q. rows_at w.filled i j l q))

  -- ---- edge l

  below : Below (network edge m) n
  below = ends_below edge n m limited

  abbrev laid : ℕ → Table
  laid = edges edge (top far)

  abbrev at : ℕ → Table
  at = stages edge (top far) m

  lay_runs : (l : ℕ) (s : Store) → l < m → Holds far edge n m (laid l) s → Does lay (counted_to outer l start) (Holds far edge n m (laid (suc l))) s
  unfolding instructions
  lay_runs l s h e =
      let c = column edge (top far) l in
      let r = row edge (top far) l in
      loop (steps far limit n) (λ k t. Holds far edge n m (laid l) t × Holding c r k t) n _ _ _ (e, (fill_none _ _, fill_none _ _))
      (λ k t q ((f, d), (cs, rs)).
      let y = f.vertex k q in
      let self = eq-eqb k k refl in (
        (f, d),
        (
          fill_over k (t (X 1)) (simp (pick_bit, self, f.edges.from l h, y, f.blank, f.zero)) cs,
          fill_over k (t (X 1)) (simp (pick_bit, self, f.edges.to l h, y, f.blank, f.edges.weight l h)) rs,
        ),
      ))
      (λ t (e, b).
      update_runs c r (laid l) (column_within edge m n limit far (high far) below limited.weight_most room.tables l)
      (row_within edge m n limit far (high far) below limited.weight_most room.tables l h) (counted_to outer l start) t e b)

  -- ---- stage k

  stage_runs : (k : ℕ) (s : Store) → k < n → Holds far edge n m (at k) s → Does stage (counted_to outer k start) (Holds far edge n m (at (suc k))) s
  unfolding instructions
  stage_runs k s h e =
      let c : ℕ → ℤ = λ i. at k i k in
      let r : ℕ → ℤ = λ j. at k k j in
      let inside = stage_within edge m n limit far (high far) below limited.weight_most room.tables k h in
      loop (steps far limit n) (λ v t. Holds far edge n m (at k) t × Holding c r v t) n _ _ _ (e, (fill_none _ _, fill_none _ _))
      (λ v t q ((f, d), (cs, rs)). ((f, d), (fill v (d v k q h) cs, fill v (d k v h q) rs)))
      (λ t (e, b). update_runs c r (at k) (λ i. inside i k) (λ j. inside k j) (counted_to outer k start) t e b)

  -- ---- the constants and the start

  -- The vertices below k have their numbers.
  abbrev Numbered : ℕ → Store → Type 0
  Numbered k t = Given edge m t × ((v : ℕ) → v < k → t (Y v) ≡ pos v)

  -- FAR is doubled k times.
  abbrev Doubled : ℕ → Store → Type 0
  Doubled k t = Numbered n t × (t (X 0) ≡ pos far) × (t (X 1) ≡ pos (doubled far k))

  double_runs : (k : ℕ) (t : Store) → k < 20 → Doubled k t
      → Sum far limit n (t (X 1)) (t (X 1)) × (wrap_add (t (X 1)) (t (X 1)) ≡ pos (doubled far (suc k)))
  double_runs k t l (_, _, x) =
      let small = natural far limit n room (doubled far k) (doubled_most far k 20 (omega arith)) in
      rw x ((small, small), exact far limit n room (pos (doubled far k)) (pos (doubled far k)) (small, small) ∙ ap pos (sym (doubled_more far k)))

  -- The rows below k have their 0.
  abbrev begun : ℕ → Table
  begun k i j = upto k (λ i. Floyd.start edge (top far) i j) (λ i. top far) i

  -- Row k's, too: it is written at place k * n + k.
  one_zero : (k i j : ℕ) → cond (eqb k i && eqb k j) (pos 0) (begun k i j) ≡ begun (suc k) i j
  one_zero k i j =
      by_test (eqb k i)
      (λ e. let a = eqb-true k i e in rw (e, le-ltb i k (omega arith), lt-ltb i (suc k) (omega arith), a))
      (λ e. rw e (rw e at (upto_suc (λ i. Floyd.start edge (top far) i j) (λ i. top far) k i)))

  -- ---- the whole plan

  abbrev final : Table
  final = floyd edge (top far) n m

  -- Of the diagonal the first k entries are looked at.
  abbrev Counted : ℕ → Store → Type 0
  Counted k t =
      record {
        mark : t (X 0) ≡ pos far;
        zero : t (X 2) ≡ pos 0;
        found : t (X 5) ≡ pos (count k final);
        entries : Entries n final t;
      }

  -- What the plan leaves: HIGH is FAR, and the flag is raised where an entry of the diagonal is negative.
  abbrev pub End : Store → Type 0
  End t = (t (X 5) ≡ bit (negative n final)) × Entries n (marked (pos far) final) t

  -- The marks are set up to place j of row i.
  abbrev Marking : (i j : ℕ) → Store → Type 0
  Marking i j t = (t (X 0) ≡ pos far) × (t (X 5) ≡ bit (negative n final)) × Rewritten n i j (marked (pos far) final) final (λ p. t (D p))

  -- The table is blank up to place j of row i.
  abbrev Starting : (i j : ℕ) → Store → Type 0
  Starting i j t = Fixed far edge n m t × Rows n i j (λ i j. top far) (λ p. t (D p))

  count_runs : (k : ℕ) (t : Store) → k < n → Counted k t
      → Sum far limit n (t (X 5)) (bit (lt_z (t (D (k * n + k))) (t (X 2))))
      × (wrap_add (t (X 5)) (bit (lt_z (t (D (k * n + k))) (t (X 2)))) ≡ pos (count (suc k) final))
  count_runs k t l h =
      let b = lt_z (final k k) (pos 0) in
      let one : cond b 1 0 ≤ 1 = by_test b (λ e. rw e (omega arith)) (λ e. rw e (omega arith)) in
      let sums : Sum far limit n (pos (count k final)) (pos (cond b 1 0)) =
      (natural far limit n room (count k final) (omega (arith, count_most k final, room.counts)), natural far limit n room (cond b 1 0) (omega (arith, room.counts))) in
      rw (h.found, h.entries k k l l, h.zero, bit_is b) (sums, exact far limit n room (pos (count k final)) (pos (cond b 1 0)) sums)

  pub plan_runs : (s : Store) → Given edge m s → Runs (steps far limit n) (plan pair (pos far) n m) End s
  unfolding plan instructions
  plan_runs s h =
      loop (steps far limit n) Numbered n _ _ _ (h, fill_none _ _)
      (λ k t l (h, y). (h, fill k refl y))
      (λ t h.
      loop (steps far limit n) Doubled 20 _ _ _ (h, refl, ap pos (sym (doubled_none far)))
      (λ k t l d. let r = double_runs k t l d in (r.0, (d.0, d.1, r.1)))
      (λ t ((h, y), x0, x1).
      loop (steps far limit n) (λ i. Starting i 0) n _ _ _
      (record { edges = h; vertex = y; mark = x0; blank = x1; zero = refl; none = refl }, rows_none)
      (λ i t l h.
      loop (steps far limit n) (Starting i) n _ _ _ h
      (λ j t q (f, w). (f, rows_place j q f.blank w))
      (λ t (f, w). (f, rows_next w)))
      (λ t (f, w).
      loop (steps far limit n) (λ k. Holds far edge n m (begun k)) n _ _ _ (f, λ i j l q. rows_at w i j l q ∙ upto_zero (λ i. Floyd.start edge (top far) i j) (λ i. top far) i)
      (λ k t l (f, d). (f, λ i j p q. simp (entry_same k k i j l q, f.zero, d i j p q) (one_zero k i j)))
      (λ t (f, d).
      loop (steps far limit n) (λ l. Holds far edge n m (laid l)) m _ _ _ (f, λ i j l q. d i j l q ∙ upto_all (λ i. Floyd.start edge (top far) i j) (λ i. top far) n i l)
      (λ l t q. lay_runs l t q)
      (λ t h.
      loop (steps far limit n) (λ k. Holds far edge n m (at k)) n _ _ _ h
      (λ k t l. stage_runs k t l)
      (λ t (f, d).
      loop (steps far limit n) Counted n _ _ _ (record { mark = f.mark; zero = f.zero; found = f.none; entries = d })
      (λ k t l h. let r = count_runs k t l h in (r.0, record { mark = h.mark; zero = h.zero; found = r.1; entries = h.entries }))
      (λ t h.
      loop (steps far limit n) (λ i. Marking i 0) n _ _ _ (h.mark, rw h.found (raised n final), rewrite_none h.entries)
      (λ i t l h.
      loop (steps far limit n) (Marking i) n _ _ _ h
      (λ j t q (x0, x5, w). (x0, x5, rewrite_place j l q (λ old. simp (pick_bit, x0, old)) w))
      (λ t (x0, x5, w). (x0, x5, rewrite_next w)))
      (λ t (x0, x5, w). (x5, λ i j l q. rows_at w.filled i j l q)))))))))
