-- Method 4's greatest depth: line by line, the depth of each instruction.
-- Rests on Depths and on methods' Steps, Names and Filled.
use mathlib.Core.Path.{◌≡◌, refl, subst, ◌∙◌}
use mathlib.Core.Bool.{cond}
use mathlib.Core.List.{List, [], ◌++◌}
use Prim.Native.Nat.{ℕ, zero, suc, ◌+◌, ◌*◌, ◌<◌, ◌≤◌, max}
use native.Mathlib.Nat.{add-suc}
use native.Mathlib.Omega.{arith}
use borrow.Author.Tests.{eq-eqb, ne_eqb}
use lib.Arith.{digits_lt}
use lib.Dec.{eqb}
use lib.IntN.{ℤ}
use Rattle.lists.proofs.Test.{by_test}
use Rattle.machine.specs.Instruction.{Instruction}
use Rattle.machine.specs.Depth.{greatest}
use Rattle.plans.specs.Blocks.{flat}
use Rattle.plans.specs.Outline.{outer, Outline, counted_to, start, instructions}
use Rattle.plans.specs.Method4.{from, to, weight, D, C, R, Y, X, update, lay, stage, plan}
use Rattle.plans.specs.declared.Counters.{Counters}
use Rattle.methods.proofs.Steps.{Claim, Runs, loop}
use Rattle.depths.proofs.Depths.{Depths, fresh, depths, named, greatest_is}
use Rattle.methods.proofs.Names.{Name, same, pair}
use Rattle.methods.proofs.Filled.{the_rest, fill_none, fill, fill_over, Refilled, refill_none, refill}

abbrev Store : Type 0
Store = Depths Name

-- ---- the figures

-- The table after l edges: what an edge lays is at 8, so the first entries, at 1, count as if they were at 8.
abbrev laid_at : ℕ → ℕ
laid_at zero = 1
laid_at (suc l) = 8 + 7 * suc l

laid : (l : ℕ) → (1 ≤ laid_at l) × (max 8 (laid_at l) ≡ 8 + 7 * l)
laid zero = omega arith
laid (suc l) = omega arith

-- The table after all edges and k stages.
abbrev deep_after : (m k : ℕ) → ℕ
deep_after m k = laid_at m + 7 * k

-- ---- what a store holds

-- The edges are as they came, and the numbers of the vertices below k are set.
abbrev Opened : ℕ → Store → Type 0
Opened k t =
    ((l : ℕ) → t.0 (from l) ≡ 0)
    × ((l : ℕ) → t.0 (to l) ≡ 0)
    × ((l : ℕ) → t.0 (weight l) ≡ 0)
    × ((v : ℕ) → v < k → t.0 (Y v) ≡ 1)

module _ (n : ℕ) where
  -- What neither an edge nor a stage writes. A record type with no name: a proof for a store is, by computation, one for the store after
  -- other writes.
  abbrev Fixed : Store → Type 0
  Fixed t =
      record {
        from : (l : ℕ) → t.0 (from l) ≡ 0;
        to : (l : ℕ) → t.0 (to l) ≡ 0;
        weight : (l : ℕ) → t.0 (weight l) ≡ 0;
        vertex : (v : ℕ) → v < n → t.0 (Y v) ≡ 1;
        far : t.0 (X 0) ≡ 1;
        high : t.0 (X 1) ≡ 1;
        zero : t.0 (X 2) ≡ 1;
        circles : t.0 (X 5) ≡ 1;
      }

  -- The table's entries are at d.
  abbrev Table : (d : ℕ) → Store → Type 0
  Table d t = (p : ℕ) → p < n * n → t.0 (D p) ≡ d

  abbrev Level : (d : ℕ) → Store → Type 0
  Level d t = Fixed t × Table d t

-- The first k places of the column and of the row are at c.
abbrev Given : (c k : ℕ) → Store → Type 0
Given c k t = ((v : ℕ) → v < k → t.0 (C v) ≡ c) × ((v : ℕ) → v < k → t.0 (R v) ≡ c)

-- The loop rule for the table, entry by entry: Inv p holds before the turn of place p.
entries : (n most : ℕ) (Inv : ℕ → Claim Store) (f : ℕ → ℕ → List (Instruction Name)) (rest : List (Instruction Name)) (R : Claim Store)
    → {t : Store} → Inv 0 t
    → ((i j : ℕ) (t : Store) → i < n → j < n → i * n + j < n * n → Inv (i * n + j) t
    → Runs (depths same most) (f i j) (Inv (suc (i * n + j))) t)
    → ((t : Store) → Inv (n * n) t → Runs (depths same most) rest R t)
    → Runs (depths same most) (flat n (λ i. flat n (f i) ++ []) ++ rest) R t
entries n most Inv f rest R {t} h step then =
    loop (depths same most) (λ i. Inv (i * n + 0)) n _ _ _ (subst (λ p. Inv p t) (omega arith) h)
    (λ i t li h.
    loop (depths same most) (λ j. Inv (i * n + j)) n _ _ _ h
    (λ j t lj h. rw add-suc (step i j t li lj (digits_lt li lj) h))
    (λ t h. subst (λ p. Inv p t) (omega arith) h))
    (λ t h. then t (subst (λ p. Inv p t) (omega arith) h))

module _ (far : ℤ) (n m most : ℕ) where
  abbrev Does : Outline → Counters → Claim Store → Claim Store
  Does o k = Runs (depths same most) (instructions pair far n m 0 o k)

  -- ---- the update, with the column and the row at c

  module _ (c d e : ℕ) (deep : max c d + 7 ≡ e) (room : e ≤ most) where
    -- The entries below place p are updated.
    abbrev Updated : ℕ → Store → Type 0
    Updated p t = Fixed n t × Given c n t × Refilled (n * n) p (λ p. e) (λ p. d) (λ p. t.0 (D p))

    update_runs : (k : Counters) (t : Store) → Level n d t → Given c n t → Does update k (Level n e) t
    unfolding instructions
    update_runs k t (f, ds) g =
        entries n most Updated _ _ _ (f, g, refill_none ds)
        (λ i j t li lj l (f, (cs, rs), ds).
        let ci = cs i li in
        let rj = rs j lj in
        let dij = ds.left (i * n + j) l (omega arith) in
        named c (omega arith)
        (named (max c d + 6) (omega arith)
        (named e (omega arith) (f, (cs, rs), refill (i * n + j) l (λ _. refl) ds))))
        (λ t (f, _, ds). (f, ds.done))

  -- ---- an edge, and a stage

  lay_runs : (l : ℕ) → laid_at (suc l) ≤ most → (t : Store) → Level n (laid_at l) t
      → Does lay (counted_to outer l start) (Level n (laid_at (suc l))) t
  unfolding instructions
  lay_runs l room t h =
      let deep = laid l in
      loop (depths same most) (λ v t. Level n (laid_at l) t × Given 8 v t) n _ _ _ (h, (fill_none _ _, fill_none _ _))
      (λ v t lv ((f, ds), (cs, rs)).
      let a = f.from l in
      let b = f.to l in
      let w = f.weight l in
      let y = f.vertex v lv in
      let x1 = f.high in
      let x2 = f.zero in
      let here = eq-eqb v v refl in
      named 1 (omega arith)
      (named 7 (omega arith)
      (named 8 (rw here (omega arith))
      (named 1 (omega arith)
      (named 7 (omega arith) (named 8 (rw here (omega arith)) ((f, ds), (fill_over v 1 refl cs, fill_over v 1 refl rs))))))))
      (λ t (h, g). update_runs 8 (laid_at l) (laid_at (suc l)) (omega arith) room (counted_to outer l start) t h g)

  stage_runs : (k : ℕ) → k < n → deep_after m (suc k) ≤ most → (t : Store) → Level n (deep_after m k) t
      → Does stage (counted_to outer k start) (Level n (deep_after m (suc k))) t
  unfolding instructions
  stage_runs k lk room t h =
      let d = deep_after m k in
      loop (depths same most) (λ v t. Level n d t × Given d v t) n _ _ _ (h, (fill_none _ _, fill_none _ _))
      (λ v t lv (h, (cs, rs)).
      let c = h.1 (v * n + k) (digits_lt lv lk) in
      let r = h.1 (k * n + v) (digits_lt lk lv) in
      named d (omega arith) (named d (omega arith) (h, (fill v refl cs, fill v refl rs))))
      (λ t (h, g). update_runs d d (deep_after m (suc k)) (omega arith) room (counted_to outer k start) t h g)

-- ---- the plan

module _ (far : ℤ) (n m : ℕ) (some : 0 < n) where
  -- The table's depth after the last stage, and the verdict's opening.
  abbrev d : ℕ
  d = deep_after m n

  abbrev most : ℕ
  most = d + 8

  -- The diagonal's entries below k are looked at.
  abbrev Counted : ℕ → Store → Type 0
  Counted k t =
      (t.0 (X 0) ≡ 1)
      × (t.0 (X 2) ≡ 1)
      × Table n d t
      × (t.0 (X 5) ≤ d + 6)
      × (0 < k → t.0 (X 5) ≡ d + 6)

  -- The entries below place p are shown.
  abbrev Shown : ℕ → Store → Type 0
  Shown p t = (t.0 (X 0) ≡ 1) × (t.0 (X 5) ≡ d + 7) × ((q : ℕ) → p ≤ q → q < n * n → t.0 (D q) ≡ d)

  plan_runs : Runs (depths same most) (plan pair far n m) (λ t. most ≤ t.1) fresh
  unfolding plan instructions
  plan_runs =
      let deep = laid m in
      loop (depths same most) Opened n _ _ _ (λ l. refl, λ l. refl, λ l. refl, fill_none _ _)
      (λ v t _ (f, u, w, y). named 1 (omega arith) (f, u, w, fill v refl y))
      (λ t h.
      named 1 (omega arith)
      (named 1 (omega arith)
      (loop (depths same most) (λ _ t. Opened n t × (t.0 (X 0) ≡ 1) × (t.0 (X 1) ≡ 1)) 20 _ _ _ (h, refl, refl)
      (λ _ t _ (h, x0, x1). named 1 (omega arith) (h, x0, refl))
      (λ t ((f, u, w, y), x0, x1).
      named 1 (omega arith)
      (named 1 (omega arith)
      (entries n most (λ p t. Fixed n t × ((q : ℕ) → q < p → t.0 (D q) ≡ 1)) _ _ _ (
        record { from = f; to = u; weight = w; vertex = y; far = x0; high = x1; zero = refl; circles = refl },
        fill_none _ _,
      )
      (λ i j t _ _ _ (f, ds).
      let x1 = f.high in
      named 1 (omega arith) (f, fill (i * n + j) refl ds))
      (λ t h.
      loop (depths same most) (λ _. Level n 1) n _ _ _ h
      (λ v t l (f, ds).
      let x2 = f.zero in
      named 1 (omega arith) (f, λ p lp. by_test (eqb (v * n + v) p) (λ e. rw e) (λ e. rw e (ds p lp))))
      (λ t h.
      loop (depths same most) (λ l. Level n (laid_at l)) m _ _ _ h
      (λ l t ll. lay_runs far n m most l (omega arith) t)
      (λ t (f, ds).
      loop (depths same most) (λ k. Level n (deep_after m k)) n _ _ _ (f, λ p l. omega (arith, ds p l))
      (λ k t lk. stage_runs far n m most k lk (omega arith) t)
      (λ t (f, ds).
      let x5 = f.circles in
      loop (depths same most) Counted n _ _ _ (f.far, f.zero, ds, omega arith, λ no. omega arith)
      (λ v t l (x0, x2, ds, x5, _).
      let dv = ds (v * n + v) (digits_lt l l) in
      named (d + 6) (omega arith) (named (d + 6) (omega arith) (x0, x2, ds, omega arith, λ _. refl)))
      (λ t (x0, _, ds, _, counted).
      let x5 = counted some in
      named (d + 7) (omega arith)
      (entries n most Shown _ _ _ (x0, refl, λ q _. ds q)
      (λ i j t _ _ l (x0, x5, ds).
      let dij = ds (i * n + j) (omega arith) l in
      named (d + 6) (omega arith)
      (named (d + 7) (omega arith) (x0, x5, the_rest (λ q c. c ≡ d) (i * n + j) _ (n * n) ds)))
      (λ t (_, x5, _). named most (omega arith) (omega arith))))))))))))))

pub greatest4 : (far : ℤ) (n m : ℕ) → 0 < n
    → greatest same (plan pair far n m) ≡ cond (eqb m 0) (7 * n + 9) (7 * n + 7 * m + 16)
greatest4 far n zero some = greatest_is same (deep_after 0 n + 8) (plan pair far n 0) (plan_runs far n 0 some) ∙ omega arith
greatest4 far n (suc m) some =
    rw (ne_eqb (suc m) 0 (omega arith))
    (greatest_is same (deep_after (suc m) n + 8) (plan pair far n (suc m)) (plan_runs far n (suc m) some) ∙ omega arith)
