-- Method 1's greatest depth: line by line, the depth of each instruction.
-- Rests on Depths and Spared, and on methods' Steps, Names and Filled.
use mathlib.Core.Path.{◌≡◌, refl, ap, ◌∙◌}
use mathlib.Core.Bool.{cond}
use Prim.Native.Nat.{ℕ, zero, suc, ◌+◌, ◌-◌, ◌*◌, ◌<◌, ◌≤◌, max}
use native.Mathlib.Nat.{mul-le-mul_right, mul-add, add-mul, mul_left_comm}
use native.Mathlib.Omega.{arith}
use borrow.Author.Tests.{ne_eqb}
use lib.Dec.{eqb}
use lib.IntN.{ℤ}
use Rattle.machine.specs.Depth.{greatest}
use Rattle.plans.specs.Outline.{middle, vertices, fixed, counted, set, opens, Outline, end, line, run, ◌▸◌, joined, counted_to, start, instructions}
use Rattle.plans.specs.Method1.{from, to, weight, D, P, Y, X, gather, update, test, relax, check, solve, plan}
use Rattle.plans.proofs.Outlines.{instructions_joined}
use Rattle.plans.proofs.Addresses.{keeps}
use Rattle.methods.proofs.Steps.{Claim, Runs, runs_then, loop}
use Rattle.depths.proofs.Depths.{Depths, fresh, depths, named, greatest_is}
use Rattle.depths.proofs.Spared.{Spared, spared}
use Rattle.methods.proofs.Names.{Name, same, pair}
use Rattle.methods.proofs.Filled.{fill_none, fill, Refilled, refill_none, refill}

abbrev pub Store : Type 0
Store = Depths Name

-- What no pass writes. A record type with no name: a proof for a store is, by computation, one for the store after other writes.
abbrev Fixed : (n : ℕ) → Store → Type 0
Fixed n t =
    record {
      from : (i : ℕ) → t.0 (from i) ≡ 0;
      to : (i : ℕ) → t.0 (to i) ≡ 0;
      weight : (i : ℕ) → t.0 (weight i) ≡ 0;
      vertex : (v : ℕ) → v < n → t.0 (Y v) ≡ 1;
      far : t.0 (X 0) ≡ 1;
    }

-- Distances and parents at d, and the flag.
abbrev pub Level : (n d flag : ℕ) → Store → Type 0
Level n d flag t =
    record {
      fixed : Fixed n t;
      dist : (v : ℕ) → v < n → t.0 (D v) ≡ d;
      parent : (v : ℕ) → v < n → t.0 (P v) ≡ d;
      flag : t.0 (X 7) ≡ flag;
    }

-- The depth x of a cell, 1 at first, after c moves into it of what is at `base`: each takes it one further.
abbrev pub Raised : (base c x : ℕ) → Type 0
Raised base c x = (max base x ≡ base + c) × (c ≡ 0 → x ≡ 1)

-- The edges before i are checked.
abbrev Checked : (n d e i : ℕ) → Store → Type 0
Checked n d e i t = (flag : ℕ) × Raised (e + n + 8) (i * n) flag × Level n d flag t

module _ (far : ℤ) (n m source most : ℕ) where
  -- ---- edge i. The test of an edge's end is at 7: so the first distances, at 1, count as if they were at 7

  module _ (some : 0 < n) (i d e : ℕ) (deep : max 7 d ≡ e) (room : e + n + 9 ≤ most) where
    abbrev Does : Outline → Claim Store → Claim Store
    Does o = Runs (depths same most) (instructions pair far n m source o (counted_to middle i start))

    -- The depth at which the from-vertex's distance is found.
    abbrev x : ℕ
    x = e + n

    module _ (flag : ℕ) where
      abbrev Selected : ℕ → Store → Type 0
      Selected k t = Level n d flag t × (max e (t.0 (X 1)) ≡ e + k)

      abbrev Gathered : Store → Type 0
      Gathered t = Level n d flag t × (t.0 (X 2) ≡ x) × (t.0 (X 4) ≡ x + 6)

      gather_runs : (rest : Outline) (R : Claim Store) (t : Store) → Level n d flag t
          → ((t : Store) → Gathered t → Does rest R t) → Does (gather rest) R t
      unfolding instructions
      gather_runs rest R t h then =
          let f = h.fixed.far in
          named 1 (omega arith)
          (loop (depths same most) Selected n _ _ _ (h, omega arith)
          (λ k t lk (h, x1).
          let f = h.fixed.from i in
          let y = h.fixed.vertex k lk in
          let dk = h.dist k lk in
          named 7 (omega arith) (named (e + suc k) (omega arith) (h, omega arith)))
          (λ t (h, x1).
          let f = h.fixed.far in
          let w = h.fixed.weight i in
          named x (omega arith) (named (x + 6) (omega arith) (then _ (h, refl, refl)))))

    -- The vertices below k are done.
    abbrev Updated : ℕ → Store → Type 0
    Updated k t =
        Fixed n t
        × (t.0 (X 7) ≡ 1)
        × (t.0 (X 2) ≡ x)
        × (t.0 (X 4) ≡ x + 6)
        × (t.0 (X 3) ≡ 1)
        × Refilled n k (λ v. x + 9) (λ v. d) (λ v. t.0 (D v))
        × Refilled n k (λ v. x + 9) (λ v. d) (λ v. t.0 (P v))

    relax_runs : (R : Claim Store) (t : Store) → Level n d 1 t → ((t : Store) → Level n (x + 9) 1 t → R t) → Does relax R t
    unfolding instructions
    relax_runs R t h then =
        gather_runs 1 (line (set (X (fixed 3)) (counted middle)) ▸ run vertices update ▸ end) _ t h
        (λ t (h, x2, x4).
        named 1 (omega arith)
        (loop (depths same most) Updated n _ _ _
        (h.fixed, h.flag, x2, x4, refl, refill_none h.dist, refill_none h.parent)
        (λ k t lk (f, x7, x2, x4, x3, ds, ps).
        let u = f.to i in
        let y = f.vertex k lk in
        let dk = ds.left k lk (omega arith) in
        let pk = ps.left k lk (omega arith) in
        named 7 (omega arith)
        (named (x + 6) (omega arith)
        (named (x + 7) (omega arith)
        (named (x + 8) (omega arith)
        (named (x + 9) (omega arith)
        (named (x + 9) (omega arith) (f, x7, x2, x4, x3, refill k lk (λ _. refl) ds, refill k lk (λ _. refl) ps)))))))
        (λ t (f, x7, _, _, _, ds, ps). then t (record { fixed = f; dist = ds.done; parent = ps.done; flag = x7 }))))

    -- ---- the check: the edges before i have been tested

    module _ (above : x + 8 + suc i * n ≤ most) where
      -- The vertices below k are tested.
      abbrev Tested : ℕ → Store → Type 0
      Tested k t = (flag : ℕ) × Raised (x + 8) (i * n + k) flag × Gathered flag t

      check_runs : (t : Store) → Checked n d e i t → Does check (Checked n d e (suc i)) t
      unfolding instructions
      check_runs t (flag, (q, first), h) =
          gather_runs flag (run vertices test ▸ end) _ t h
          (λ t h.
          loop (depths same most) Tested n _ _ _ (flag, (omega arith, λ no. first (omega arith)), h)
          (λ k t lk (flag, (q, _), (h, x2, x4)).
          let u = h.fixed.to i in
          let y = h.fixed.vertex k lk in
          let dk = h.dist k lk in
          let x7 = h.flag in
          let z = x + 8 + (i * n + suc k) in
          named 7 (omega arith)
          (named (x + 6) (omega arith)
          (named (x + 7) (omega arith)
          (named (x + 8) (omega arith)
          (named z (omega arith) (
            z,
            (omega arith, λ no. absurd (omega arith)),
            (record { fixed = h.fixed; dist = h.dist; parent = h.parent; flag = refl }, x2, x4),
          ))))))
          (λ t (flag, (q, _), (h, _, _)). (flag, (omega arith, λ no. absurd (omega arith)), h)))

-- ---- the plan but for its last line

-- e after p passes; and the depth of the verdict's opening.
abbrev pub deep_after : (n m p : ℕ) → ℕ
deep_after n m p = 7 + p * (m * (n + 9))

abbrev pub verdict_at : (n m : ℕ) → ℕ
verdict_at n zero = 2
verdict_at n (suc m) = deep_after n (suc m) (n - 1) + n + 9 + suc m * n

-- With edges and without.
opened : (n m e flag : ℕ) → 0 < n → e ≡ deep_after n m (n - 1) → Raised (e + n + 8) (m * n) flag → flag + 1 ≡ verdict_at n m
opened n zero e flag some deep h = omega (arith, h.1 (omega arith))
opened n (suc m) e flag some deep h = omega (arith, h.0)

room : (n m : ℕ) → 0 < m → verdict_at n m ≡ deep_after n m (n - 1) + n + 9 + m * n
room n zero l = omega arith
room n (suc m) l = refl

least : (n m : ℕ) → 2 ≤ verdict_at n m
least n zero = omega arith
least n (suc m) = omega arith

-- What it leaves.
abbrev pub Left : (n m : ℕ) → Store → Type 0
Left n m t =
    (d flag : ℕ) × (1 ≤ d) × (max 7 d ≡ deep_after n m (n - 1)) × (flag + 1 ≡ verdict_at n m) × Level n d flag t

module _ (far : ℤ) (n m source most : ℕ) (some : 0 < n) (deep : verdict_at n m ≤ most) where
  -- The opening has set the vertices below k.
  abbrev Opened : ℕ → Store → Type 0
  Opened k t =
      ((i : ℕ) → t.0 (from i) ≡ 0)
      × ((i : ℕ) → t.0 (to i) ≡ 0)
      × ((i : ℕ) → t.0 (weight i) ≡ 0)
      × ((v : ℕ) → v < k → t.0 (Y v) ≡ 1)
      × ((v : ℕ) → v < k → t.0 (D v) ≡ 1)
      × ((v : ℕ) → v < k → t.0 (P v) ≡ 1)

  -- p passes and i edges of the next.
  abbrev Relaxed : (p i : ℕ) → Store → Type 0
  Relaxed p i t = (d e : ℕ) × (1 ≤ d) × (max 7 d ≡ e) × (e ≡ deep_after n m p + i * (n + 9)) × Level n d 1 t

  solve_runs : Runs (depths same most) (instructions pair far n m source solve start) (Left n m) fresh
  unfolding instructions
  solve_runs =
      let low = least n m in
      loop (depths same most) Opened n _ _ _
      (λ i. refl, λ i. refl, λ i. refl, fill_none _ _, fill_none _ _, fill_none _ _)
      (λ k t l (f, u, w, y, d, p).
      named 1 (omega arith)
      (named 1 (omega arith) (named 1 (omega arith) (f, u, w, fill k refl y, fill k refl d, fill k refl p))))
      (λ t (f, u, w, y, d, p).
      named 1 (omega arith)
      (named 1 (omega arith)
      (loop (depths same most) (λ p. Relaxed p 0) (n - 1) _ _ _ (
        1,
        7,
        omega arith,
        refl,
        omega arith,
        record { fixed = record { from = f; to = u; weight = w; vertex = y; far = refl }; dist = d; parent = p; flag = refl },
      )
      (λ p t lp h.
      loop (depths same most) (Relaxed p) m _ _ _ h
      (λ i t li (d, e, o, q, z, h).
      let a : suc i * (n + 9) ≤ m * (n + 9) = mul-le-mul_right (n + 9) li in
      let b : suc p * (m * (n + 9)) ≤ (n - 1) * (m * (n + 9)) = mul-le-mul_right (m * (n + 9)) lp in
      let r = room n m (omega arith) in
      relax_runs far n m source most some i d e q (omega arith) _ t h
      (λ t h. (e + n + 9, e + n + 9, omega arith, omega arith, omega arith, h)))
      (λ t (d, e, o, q, z, h). (d, e, o, q, omega arith, h)))
      (λ t (d, e, o, q, z, h).
      loop (depths same most) (Checked n d e) m _ _ _ (1, (omega arith, λ _. refl), h)
      (λ i t l.
      let r = room n m (omega arith) in
      let a : suc i * n ≤ m * n = mul-le-mul_right n l in
      check_runs far n m source most some i d e q (omega arith) (omega arith) t)
      (λ t (flag, f, h). (d, flag, o, omega arith, opened n m e flag some (omega arith) f, h))))))

  -- And then what follows it: the regions from 7 on have not been written.
  pub solve_then : (rest : Outline) (R : Claim Store)
      → ((t : Store) → Left n m t × Spared 7 (λ a. 0) t.0 → Runs (depths same most) (instructions pair far n m source rest start) R t)
      → Runs (depths same most) (instructions pair far n m source (joined solve rest) start) R fresh
  solve_then rest R then =
      let is = instructions pair far n m source solve start in
      rw (instructions_joined pair far n m source start solve rest)
      (runs_then (depths same most) is _ _ R fresh
      (spared 7 (λ a. 0) most is (keeps _ _ pair far n m source solve (search arith)) (Left n m) fresh (λ a l. refl) solve_runs) then)

-- ---- the plan

plan_runs : (far : ℤ) (n m source : ℕ) → 0 < n
    → Runs (depths same (verdict_at n m)) (plan pair far n m source) (λ t. verdict_at n m ≤ t.1) fresh
unfolding plan instructions
plan_runs far n m source some =
    solve_then far n m source (verdict_at n m) some (omega arith) (line (opens (X (fixed 7))) end) _
    (λ t ((d, flag, _, _, top, h), _).
    let x7 = h.flag in
    named (verdict_at n m) (omega arith) (omega arith))

figure : (n m : ℕ) → 0 < n → verdict_at n m ≡ cond (eqb m 0) 2 (m * (n * n + 9 * n - 9) + n + 16)
figure n zero some = refl
figure n (suc m) some =
    let k : n - 1 + 1 ≡ n = omega arith in
    let e : (n - 1) * (n + 9) + n ≡ n * n + 9 * n - 9 = omega (arith, rw k at (add-mul (n - 1) 1 (n + 9)), mul-add n n 9) in
    rw (ne_eqb (suc m) 0 (omega arith))
    (omega (arith, mul_left_comm (n - 1) (suc m) (n + 9), mul-add (suc m) ((n - 1) * (n + 9)) n, ap (λ (k : ℕ). suc m * k) e))

pub greatest1 : (far : ℤ) (n m source : ℕ) → 0 < n
    → greatest same (plan pair far n m source) ≡ cond (eqb m 0) 2 (m * (n * n + 9 * n - 9) + n + 16)
greatest1 far n m source some =
    greatest_is same (verdict_at n m) (plan pair far n m source) (plan_runs far n m source some) ∙ figure n m some
