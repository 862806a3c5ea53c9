-- Method 2's greatest depth: line by line, the depth of each instruction.
-- Rests on Depths and on methods' Steps, Names and Filled.
use mathlib.Core.Path.{◌≡◌, refl}
use Prim.Native.Nat.{ℕ, suc, ◌+◌, ◌*◌, ◌<◌, ◌≤◌, max}
use native.Mathlib.Nat.{mul-le-mul_right}
use native.Mathlib.Omega.{arith}
use lib.IntN.{ℤ}
use Rattle.machine.specs.Depth.{greatest}
use Rattle.plans.specs.Outline.{middle, Outline, counted_to, start, instructions}
use Rattle.plans.specs.Method2.{U, D, P, Y, O, R, X, fetch, turn, plan}
use Rattle.plans.specs.declared.Counters.{Counters}
use Rattle.methods.proofs.Steps.{Claim, Runs, loop}
use Rattle.depths.proofs.Depths.{Depths, fresh, depths, named, greatest_is}
use Rattle.methods.proofs.Names.{Name, same, pair}
use Rattle.methods.proofs.Filled.{fill_none, fill, Refilled, refill_none, refill}

abbrev Store : Type 0
Store = Depths Name

module _ (n : ℕ) where
  -- What no turn writes. A record type with no name: a proof for a store is, by computation, one for the store after other writes.
  abbrev Fixed : Store → Type 0
  Fixed t =
      record {
        entry : (a : ℕ) → t.0 (U a) ≡ 0;
        vertex : (v : ℕ) → v < n → t.0 (Y v) ≡ 1;
        far : t.0 (X 0) ≡ 1;
        zero : t.0 (X 4) ≡ 1;
      }

  -- Distances and parents at d.
  abbrev Held : (d : ℕ) → Store → Type 0
  Held d t =
      record {
        fixed : Fixed t;
        dist : (v : ℕ) → v < n → t.0 (D v) ≡ d;
        parent : (v : ℕ) → v < n → t.0 (P v) ≡ d;
      }

  -- And which vertices are open at o.
  abbrev Level : (d o : ℕ) → Store → Type 0
  Level d o t = Held d t × ((v : ℕ) → v < n → t.0 (O v) ≡ o)

module _ (far : ℤ) (n source most : ℕ) where
  -- ---- a turn

  module _ (some : 0 < n) (d o : ℕ) (deep : 1 ≤ d) (before : o ≤ d) (room : d + 9 * n + 13 ≤ most) where
    abbrev Does : Outline → Counters → Claim Store → Claim Store
    Does l k = Runs (depths same most) (instructions pair far n 0 source l k)

    -- The depths at which a vertex is chosen and at which the turn ends.
    abbrev x : ℕ
    x = d + 8 * n

    abbrev y : ℕ
    y = d + 9 * n + 13

    abbrev Chosen : ℕ → Store → Type 0
    Chosen k t = Level n d o t × (max d (t.0 (X 1)) ≡ d + 8 * k) × (max d (t.0 (X 3)) ≡ d + 8 * k)

    -- What clearing and fetching leave.
    abbrev Found : Store → Type 0
    Found t = Held n d t × (t.0 (X 1) ≡ x) × (t.0 (X 3) ≡ x)

    abbrev Cleared : ℕ → Store → Type 0
    Cleared k t = Found t × ((v : ℕ) → v < n → t.0 (O v) ≡ o) × ((j : ℕ) → j < k → t.0 (R j) ≡ 1)

    -- The vertices below k have been looked at: each takes the row one further.
    abbrev Fetched : ℕ → Store → Type 0
    Fetched k t =
        Found t
        × Refilled n k (λ v. x + 7) (λ v. o) (λ v. t.0 (O v))
        × ((r : ℕ) × (max (x + 6) r ≡ x + 6 + k) × ((j : ℕ) → j < n → t.0 (R j) ≡ r))

    -- And vertex k too, with the places below i of its row.
    abbrev Fetching : (k r i : ℕ) → Store → Type 0
    Fetching k r i t =
        Found t
        × Refilled n (suc k) (λ v. x + 7) (λ v. o) (λ v. t.0 (O v))
        × (t.0 (X 5) ≡ x + 6)
        × Refilled n i (λ j. x + 6 + suc k) (λ j. r) (λ j. t.0 (R j))

    fetch_runs : (k : ℕ) (t : Store) → k < n → Fetched k t → Does fetch (counted_to middle k start) (Fetched (suc k)) t
    unfolding instructions
    fetch_runs k t l (h, os, (r, q, rs)) =
        let yk = h.0.fixed.vertex k l in
        let z = h.0.fixed.zero in
        let x3 = h.2 in
        let ok = os.left k l (omega arith) in
        named (x + 6) (omega arith)
        (named (x + 7) (omega arith)
        (loop (depths same most) (Fetching k r) n _ _ _ (h, refill k l (λ _. refl) os, refl, refill_none rs)
        (λ i t li (h, os, x5, rs).
        let u = h.0.fixed.entry (k * n + i) in
        let ri = rs.left i li (omega arith) in
        named (x + 6 + suc k) (omega arith) (h, os, x5, refill i li (λ _. refl) rs))
        (λ t (h, os, _, rs). (h, os, (x + 6 + suc k, omega arith, rs.done)))))

    -- The vertices below k are relaxed.
    abbrev Relaxed : ℕ → Store → Type 0
    Relaxed k t =
        Fixed n t
        × (t.0 (X 1) ≡ x)
        × (t.0 (X 3) ≡ x)
        × ((j : ℕ) → j < n → t.0 (R j) ≡ x + 6 + n)
        × ((v : ℕ) → v < n → t.0 (O v) ≡ x + 7)
        × Refilled n k (λ v. y) (λ v. d) (λ v. t.0 (D v))
        × Refilled n k (λ v. y) (λ v. d) (λ v. t.0 (P v))
        × (0 < k → y ≤ t.1)

    turn_runs : (R : Claim Store) (t : Store) → Level n d o t → ((t : Store) → Level n y (x + 7) t → y ≤ t.1 → R t)
        → Does turn start R t
    unfolding instructions
    turn_runs R t h then =
        let f = h.0.fixed.far in
        named 1 (omega arith)
        (named 1 (omega arith)
        (loop (depths same most) Chosen n _ _ _ (h, omega arith, omega arith)
        (λ k t l (h, x1, x3).
        let dk = h.0.dist k l in
        let ok = h.1 k l in
        let yk = h.0.fixed.vertex k l in
        let a = d + 8 * k in
        named (a + 6) (omega arith)
        (named (a + 7) (omega arith)
        (named (a + 8) (omega arith) (named (a + 8) (omega arith) (h, omega arith, omega arith)))))
        (λ t (h, x1, x3).
        loop (depths same most) Cleared n _ _ _ ((h.0, omega arith, omega arith), h.1, fill_none _ _)
        (λ k t l (h, o, r).
        let f = h.0.fixed.far in
        named 1 (omega arith) (h, o, fill k refl r))
        (λ t (h, o, r).
        loop (depths same most) Fetched n _ _ _ (h, refill_none o, (1, omega arith, r))
        fetch_runs
        (λ t (h, o, (r, q, rs)).
        loop (depths same most) Relaxed n _ _ _ (
          h.0.fixed,
          h.1,
          h.2,
          λ j l. omega (arith, rs j l),
          o.done,
          refill_none h.0.dist,
          refill_none h.0.parent,
          λ no. omega arith,
        )
        (λ k t l (f, x1, x3, r, o, ds, ps, g).
        let rk = r k l in
        let dk = ds.left k l (omega arith) in
        let pk = ps.left k l (omega arith) in
        named (x + n + 6) (omega arith)
        (named (x + n + 12) (omega arith)
        (named y (omega arith)
        (named y (omega arith) (f, x1, x3, r, o, refill k l (λ _. refl) ds, refill k l (λ _. refl) ps, λ _. omega arith)))))
        (λ t (f, _, _, _, o, ds, ps, g).
        then t (record { fixed = f; dist = ds.done; parent = ps.done }, o) (g some)))))))

-- ---- the plan

-- d after k turns.
abbrev deep_after : (n k : ℕ) → ℕ
deep_after n k = 1 + k * (9 * n + 13)

module _ (far : ℤ) (n source most : ℕ) (some : 0 < n) (last : deep_after n n ≡ most) where
  -- The opening has set the vertices below k.
  abbrev Opened : ℕ → Store → Type 0
  Opened k t =
      ((a : ℕ) → t.0 (U a) ≡ 0)
      × ((v : ℕ) → v < k → t.0 (Y v) ≡ 1)
      × ((v : ℕ) → v < k → t.0 (D v) ≡ 1)
      × ((v : ℕ) → v < k → t.0 (P v) ≡ 1)
      × ((v : ℕ) → v < k → t.0 (O v) ≡ 1)

  abbrev Turned : ℕ → Store → Type 0
  Turned k t = (d o : ℕ) × (d ≡ deep_after n k) × (o ≤ d) × Level n d o t × (d ≤ t.1)

  plan_runs : Runs (depths same most) (plan pair far n source) (λ t. most ≤ t.1) fresh
  unfolding plan instructions
  plan_runs =
      loop (depths same most) Opened n _ _ _ (λ a. refl, fill_none _ _, fill_none _ _, fill_none _ _, fill_none _ _)
      (λ k t l (u, y, d, p, o).
      named 1 (omega arith)
      (named 1 (omega arith)
      (named 1 (omega arith) (named 1 (omega arith) (u, fill k refl y, fill k refl d, fill k refl p, fill k refl o)))))
      (λ t (u, y, d, p, o).
      named 1 (omega arith)
      (named 1 (omega arith)
      (loop (depths same most) Turned n _ _ _ (
        1,
        1,
        omega arith,
        omega arith,
        (record { fixed = record { entry = u; vertex = y; far = refl; zero = refl }; dist = d; parent = p }, o),
        omega arith,
      )
      (λ k t l (d, o, e, b, h, _).
      let a : suc k * (9 * n + 13) ≤ n * (9 * n + 13) = mul-le-mul_right (9 * n + 13) l in
      turn_runs far n source most some d o (omega arith) b (omega arith) _ t h
      (λ t h g. (d + 9 * n + 13, d + 8 * n + 7, omega arith, omega arith, h, g)))
      (λ t (d, _, e, _, _, g). omega arith))))

pub greatest2 : (far : ℤ) (n source : ℕ) → 0 < n → greatest same (plan pair far n source) ≡ 9 * (n * n) + 13 * n + 1
greatest2 far n source some =
    greatest_is same (9 * (n * n) + 13 * n + 1) (plan pair far n source) (plan_runs far n source _ some (omega arith))
