-- Method 5's greatest depth: what method 1's lines leave, and then, line by line, the depth of each instruction.
-- Rests on Method1, on Depths and on methods' Steps, Names and Filled.
use mathlib.Core.Path.{◌≡◌, refl, ◌∙◌}
use mathlib.Core.Bool.{cond}
use Prim.Native.Nat.{ℕ, zero, suc, ◌+◌, ◌-◌, ◌*◌, ◌<◌, ◌≤◌, max}
use native.Mathlib.Nat.{mul-le-mul_right, mul-add, add-mul, mul_left_comm}
use native.Mathlib.Omega.{arith}
use borrow.Author.Tests.{ne_eqb}
use lib.Dec.{eqb}
use lib.IntN.{ℤ}
use Rattle.lists.proofs.Test.{by_test}
use Rattle.machine.specs.Depth.{greatest}
use Rattle.plans.specs.Outline.{middle, Outline, counted_to, start, instructions}
use Rattle.plans.specs.Method5.{X, Z, B, R, trace, follow, show, plan}
use Rattle.methods.proofs.Steps.{Claim, Runs, loop}
use Rattle.methods.proofs.Names.{same, pair}
use Rattle.methods.proofs.Filled.{fill_none, fill, Refilled, refill_none, refill}
use Rattle.depths.proofs.Depths.{fresh, depths, named, within, greatest_is}
use Rattle.depths.proofs.Method1.{Store, Level, Raised, deep_after, verdict_at, solve_then}

-- ---- the figures

-- The depth of the route's last step, if it has steps.
abbrev routed_at : (n m : ℕ) → ℕ
routed_at n zero = 1 + (n - 1) * (n + 6)
routed_at n (suc m) = deep_after n (suc m) (n - 1) + suc m + (n - 1) * (n + 6)

unfoldable most : (n m : ℕ) → ℕ
most n m = max (verdict_at n m) (routed_at n m)

verdict_most : (n m : ℕ) → verdict_at n m ≤ most n m
unfolding most
verdict_most n m = omega arith

-- The predecessors after all edges: each edge's number is compared with the parents, at d, and takes them one further.
traced_most : (n m d : ℕ) → 0 < n → max 7 d ≡ deep_after n m (n - 1) → 0 < m → d + 6 + m ≤ most n m
unfolding most
traced_most n zero d some deep edges = omega arith
traced_most zero (suc m) d some deep edges = elim some [ ]
traced_most (suc n) (suc m) d some deep edges = omega arith

-- With the predecessors at b, what place k of the route chooses from is ready at x + k * (n + 6).
abbrev Ready : (n m d b x : ℕ) → Type 0
Ready n m d b x =
    (max 7 b ≡ x)
    × (d ≤ x)
    × (x ≤ verdict_at n m + 6)
    × (max (verdict_at n m + 6) (x + (n - 1) * (n + 6)) ≡ most n m + 6)

-- With one vertex there are no passes, and d is below 7; but there are no places either.
ready : (n m d b : ℕ) → 0 < n → max 7 d ≡ deep_after n m (n - 1) → Raised (d + 6) m b → (x : ℕ) × Ready n m d b x
unfolding most
ready n zero d b some deep h = (7, omega (arith, h.1 refl))
ready zero (suc m) d b some deep h = elim some [ ]
ready (suc zero) (suc m) d b some deep h = (d + 6 + suc m, omega (arith, h.0))
ready (suc (suc n)) (suc m) d b some deep h = (d + 6 + suc m, omega (arith, h.0))

-- The last step, at y, or the verdict is as deep as any instruction.
ended : (n m d b x y a top : ℕ) → Ready n m d b x → max 1 y + 6 ≡ a → max b a ≡ x + (n - 1) * (n + 6) → y ≤ top
    → most n m ≤ max top (verdict_at n m)
ended n m d b x y a top g test last up = omega arith

module _ (far : ℤ) (n m source d flag : ℕ) where
  -- The outline's instructions for edge i, or for place i of the route.
  abbrev Does : (i : ℕ) → Outline → Claim Store → Claim Store
  Does i o = Runs (depths same (most n m)) (instructions pair far n m source o (counted_to middle i start))

  -- ---- the predecessors

  -- What method 1's lines leave: the destination and the route have not been written.
  abbrev Solved : Store → Type 0
  Solved t = Level n d flag t × (t.0 (Z 0) ≡ 0) × ((j : ℕ) → t.0 (R j) ≡ 0)

  -- The vertices below k are their own predecessors.
  abbrev Copied : ℕ → Store → Type 0
  Copied k t = Solved t × ((v : ℕ) → v < k → t.0 (B v) ≡ 1)

  -- The edges before i are looked at.
  abbrev Traced : ℕ → Store → Type 0
  Traced i t = (b : ℕ) × Raised (d + 6) i b × Solved t × ((v : ℕ) → v < n → t.0 (B v) ≡ b)

  -- And edge i too, for the vertices below k.
  abbrev Tracing : (b i k : ℕ) → Store → Type 0
  Tracing b i k t = Solved t × (t.0 (X 3) ≡ 1) × Refilled n k (λ v. d + 6 + suc i) (λ v. b) (λ v. t.0 (B v))

  trace_runs : (i : ℕ) → 1 ≤ d → d + 6 + suc i ≤ most n m → (t : Store) → Traced i t → Does i trace (Traced (suc i)) t
  unfolding instructions
  trace_runs i low room t (b, (q, _), h, bs) =
      named 1 (omega arith)
      (loop (depths same (most n m)) (Tracing b i) n _ _ _ (h, refl, refill_none bs)
      (λ k t l (h, x3, bs).
      let pk = h.0.parent k l in
      let bk = bs.left k l (omega arith) in
      let f = h.0.fixed.from i in
      named (d + 6) (omega arith) (named (d + 6 + suc i) (omega arith) (h, x3, refill k l (λ _. refl) bs)))
      (λ t (h, _, bs). (d + 6 + suc i, (omega arith, λ no. absurd (omega arith)), h, bs.done)))

  -- ---- the route

  module _ (b x : ℕ) where
    abbrev ready_at : ℕ → ℕ
    ready_at k = x + k * (n + 6)

    -- The vertex for place k is at y, and the test of it at a.
    abbrev Followed : ℕ → Store → Type 0
    Followed k t =
        (y a : ℕ)
        × (max 1 y + 6 ≡ a)
        × (max b a ≡ ready_at k)
        × (t.0 (X 1) ≡ y)
        × (y ≤ t.1)
        × Level n d flag t
        × ((v : ℕ) → v < n → t.0 (B v) ≡ b)
        × ((j : ℕ) → t.0 (R j) ≤ ready_at k)

    -- It has been compared with the vertices below c.
    abbrev Following : (k y c : ℕ) → Store → Type 0
    Following k y c t =
        (t.0 (X 2) ≡ y)
        × (max (ready_at k) (t.0 (X 1)) ≡ ready_at k + c)
        × (t.0 (X 1) ≤ t.1)
        × Level n d flag t
        × ((v : ℕ) → v < n → t.0 (B v) ≡ b)
        × ((j : ℕ) → t.0 (R j) ≤ ready_at k + c)

    follow_runs : 0 < n → d ≤ x → (k : ℕ) → ready_at k + n ≤ most n m → (t : Store) → Followed k t
        → Does k follow (Followed (suc k)) t
    unfolding instructions
    follow_runs some below k room t (y, a, test, e, x1, up, h, bs, rs) =
        let z = ready_at k in
        named y (omega arith)
        (loop (depths same (most n m)) (Following k y) n _ _ _ (refl, omega arith, omega arith, h, bs, λ j. omega (arith, rs j))
        (λ v t l (x2, x1, up, h, bs, rs).
        let yv = h.fixed.vertex v l in
        let bv = bs v l in
        named a (omega arith)
        (within (z + suc v) (omega (arith, h.parent v l, rs k)) (omega arith)
        (λ r lr.
        named (z + suc v) (omega arith) (
          x2,
          omega arith,
          omega arith,
          h,
          bs,
          λ j. by_test (eqb k j) (λ e. rw e lr) (λ e. rw e (omega (arith, rs j))),
        ))))
        (λ t (_, x1, up, h, bs, rs). (
          z + n,
          z + n + 6,
          omega arith,
          omega arith,
          omega arith,
          omega arith,
          h,
          bs,
          λ j. omega (arith, rs j),
        )))

  -- ---- both, and the verdict

  show_runs : 0 < n → 1 ≤ d → max 7 d ≡ deep_after n m (n - 1) → flag + 1 ≡ verdict_at n m → (t : Store) → Solved t
      → Does 0 show (λ t. most n m ≤ t.1) t
  unfolding instructions
  show_runs some low deep top t h =
      let under = verdict_most n m in
      loop (depths same (most n m)) Copied n _ _ _ (h, fill_none _ _)
      (λ k t l (h, bs).
      let y = h.0.fixed.vertex k l in
      named 1 (omega arith) (h, fill k refl bs))
      (λ t (h, bs).
      loop (depths same (most n m)) Traced m _ _ _ (1, (omega arith, λ _. refl), h, bs)
      (λ i t l. trace_runs i low (omega (arith, traced_most n m d some deep (omega arith))) t)
      (λ t (b, q, (h, z, rs), bs).
      let (x, g) = ready n m d b some deep q in
      named 0 (omega arith)
      (loop (depths same (most n m)) (Followed b x) (n - 1) _ _ _
      (0, 7, refl, omega arith, refl, omega arith, h, bs, λ j. omega (arith, rs j))
      (λ k t l. follow_runs b x some g.1 k (omega (arith, mul-le-mul_right (n + 6) l)) t)
      (λ t (y, a, test, e, x1, up, h, _, _).
      let x7 = h.flag in
      named (verdict_at n m) (omega arith) (ended n m d b x y a t.1 g test e up)))))

-- ---- the plan

plan_runs : (far : ℤ) (n m source : ℕ) → 0 < n
    → Runs (depths same (most n m)) (plan pair far n m source) (λ t. most n m ≤ t.1) fresh
unfolding plan
plan_runs far n m source some =
    solve_then far n m source (most n m) some (verdict_most n m) show _
    (λ t ((d, flag, low, deep, top, h), s).
    show_runs far n m source d flag some low deep top t (h, s (Z 0) (omega arith), λ j. s (R j) (omega arith)))

-- ---- the figure, closed

places : (n : ℕ) → 0 < n → (n - 1) * (n + 6) + 6 ≡ n * n + 5 * n
places n some =
    let k : n - 1 + 1 ≡ n = omega arith in
    omega (arith, rw k at (add-mul (n - 1) 1 (n + 6)), mul-add n n 6)

pub greatest5 : (far : ℤ) (n m source : ℕ) → 0 < n
    → greatest same (plan pair far n m source)
    ≡ cond (eqb m 0) (max 2 (n * n + 5 * n - 5)) (m * ((n - 1) * (n + 9)) + max (m * n + n + 16) (m + n * n + 5 * n + 1))
unfolding most
greatest5 far n zero source some =
    greatest_is same (most n 0) (plan pair far n 0 source) (plan_runs far n 0 source some) ∙ omega (arith, places n some)
greatest5 far n (suc m) source some =
    rw (ne_eqb (suc m) 0 (omega arith))
    (greatest_is same (most n (suc m)) (plan pair far n (suc m) source) (plan_runs far n (suc m) source some)
    ∙ omega (arith, places n some, mul_left_comm (n - 1) (suc m) (n + 9)))
