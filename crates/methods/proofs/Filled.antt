-- A region that is filled place by place, upward: for the first time, over what it held, or row by row, for the first time or over what it held.
-- Rests on lists' Test.
use mathlib.Core.Path.{◌≡◌, sym, ap, ap₂, subst, ◌∙◌}
use mathlib.Core.Bool.{cond, ◌&&◌}
use Prim.Native.Nat.{ℕ, suc, ◌+◌, ◌*◌, ◌/◌, ◌%◌, ◌<◌, ◌≤◌}
use native.Mathlib.Nat.{not-suc-le-zero}
use native.Mathlib.Omega.{arith}
use borrow.Author.Tests.{lt-ltb, le-ltb, ltb-true, ltb-false, eq-eqb, ne_eqb, eqb-true, eqb-false}
use lib.Arith.{digits_lt, digits_div, digits_mod}
use lib.Dec.{ltb, eqb}
use Rattle.lists.proofs.Test.{by_test}

eqb_sym : (a b : ℕ) → eqb a b ≡ eqb b a
eqb_sym a b =
    by_test (eqb a b)
    (λ e. e ∙ sym (eq-eqb b a (sym (eqb-true a b e))))
    (λ e. e ∙ sym (ne_eqb b a (λ q. eqb-false a b e (sym q))))

module _ {X : Type 0} where
  -- `new` below k, `old` from k on.
  abbrev pub upto : (k : ℕ) (new old : ℕ → X) → ℕ → X
  upto k new old v = cond (ltb v k) (new v) (old v)

  module _ (new old : ℕ → X) where
    pub upto_zero : (v : ℕ) → old v ≡ upto 0 new old v
    upto_zero v = rw (le-ltb v 0 (omega arith))

    pub upto_here : (k : ℕ) → upto k new old k ≡ old k
    upto_here k = rw (le-ltb k k (omega arith))

    pub upto_all : (n v : ℕ) → v < n → upto n new old v ≡ new v
    upto_all n v h = rw (lt-ltb v n h)

    other : (k v : ℕ) → (k ≡ v → ⊥) → ltb v k ≡ ltb v (suc k)
    other k v d =
        by_test (ltb v k)
        (λ e. e ∙ sym (lt-ltb v (suc k) (omega (arith, ltb-true v k e))))
        (λ e. e ∙ sym (le-ltb v (suc k) (omega (arith, d, ltb-false v k e))))

    pub upto_suc : (k v : ℕ) → cond (eqb k v) (new k) (upto k new old v) ≡ upto (suc k) new old v
    upto_suc k v =
        by_test (eqb k v)
        (λ e. let q : k ≡ v = eqb-true k v e in rw (e, q) (sym (upto_all (suc v) v (omega arith))))
        (λ e. rw (e, other k v (eqb-false k v e)))

    -- The same, where v is looked for.
    pub upto_find : (k v : ℕ) → cond (eqb v k) (new k) (upto k new old v) ≡ upto (suc k) new old v
    upto_find k v = rw (eqb_sym v k) (upto_suc k v)

-- What holds of every place below k holds of one place more; what holds of the places from k on holds of the rest.
module _ {X : Type 0} (Q : ℕ → X → Type 0) (k : ℕ) where
  pub one_more : {cell : ℕ → X} {z : X} → Q k z → ((v : ℕ) → v < k → Q v (cell v))
      → (v : ℕ) → v < suc k → Q v (cond (eqb k v) z (cell v))
  one_more {z = z} e h v l =
      by_test (eqb k v)
      (λ q. rw q (subst (λ u. Q u z) (eqb-true k v q) e))
      (λ q. rw q (h v (omega (arith, eqb-false k v q))))

  pub the_rest : {cell : ℕ → X} (z : X) (n : ℕ) → ((v : ℕ) → k ≤ v → v < n → Q v (cell v))
      → (v : ℕ) → suc k ≤ v → v < n → Q v (cond (eqb k v) z (cell v))
  the_rest z n h v l m = rw (ne_eqb k v (omega arith)) (h v (omega arith) m)

module _ {X : Type 0} where
  pub fill_none : (cell new : ℕ → X) (v : ℕ) → v < 0 → cell v ≡ new v
  fill_none cell new v l = absurd (not-suc-le-zero l)

  -- One place more.
  pub fill : {cell new : ℕ → X} (k : ℕ) {z : X} → z ≡ new k → ((v : ℕ) → v < k → cell v ≡ new v)
      → (v : ℕ) → v < suc k → cond (eqb k v) z (cell v) ≡ new v
  fill {new = new} k = one_more (λ v x. x ≡ new v) k

  -- The same, where y was written there before z.
  pub fill_over : {cell new : ℕ → X} (k : ℕ) (y : X) {z : X} → z ≡ new k → ((v : ℕ) → v < k → cell v ≡ new v)
      → (v : ℕ) → v < suc k → cond (eqb k v) z (cond (eqb k v) y (cell v)) ≡ new v
  fill_over k y e h = fill k e (λ v l. rw (ne_eqb k v (omega arith)) (h v l))

-- ---- a region of n places that held `old`, filled anew

-- The places below k are done.
pub record Refilled {X : Type 0} (n k : ℕ) (new old cell : ℕ → X) : Type 0 where
  pub done : (v : ℕ) → v < k → cell v ≡ new v
  pub left : (v : ℕ) → v < n → k ≤ v → cell v ≡ old v

module _ {X : Type 0} {n : ℕ} {new old cell : ℕ → X} where
  pub refill_none : ((v : ℕ) → v < n → cell v ≡ old v) → Refilled n 0 new old cell
  refill_none h = record { done = fill_none cell new; left = λ v l _. h v l }

  pub refill : (k : ℕ) {z : X} → k < n → (cell k ≡ old k → z ≡ new k) → Refilled n k new old cell
      → Refilled n (suc k) new old (λ v. cond (eqb k v) z (cell v))
  refill k l f h =
      record {
        done = fill k (f (h.left k l (omega arith))) h.done;
        left = λ v lv g. rw (ne_eqb k v (omega arith)) (h.left v lv (omega arith));
      }

-- ---- a table of rows of n places, filled row by row: place v of row i is i * n + v

-- A place is that of one row, and one place of it.
one_entry : {n : ℕ} (i v j w : ℕ) → v < n → w < n → i * n + v ≡ j * n + w → (i ≡ j) × (v ≡ w)
one_entry {n} i v j w l k e = (
  sym (digits_div i l) ∙ ap (λ p. p / n) e ∙ digits_div j k,
  sym (digits_mod i l) ∙ ap (λ p. p % n) e ∙ digits_mod j k,
)

pub entry_same : {n : ℕ} (i v j w : ℕ) → v < n → w < n → eqb (i * n + v) (j * n + w) ≡ (eqb i j && eqb v w)
entry_same {n} i v j w l k =
    by_test (eqb (i * n + v) (j * n + w))
    (λ e. let (a, b) = one_entry i v j w l k (eqb-true (i * n + v) (j * n + w) e) in rw (e, eq-eqb i j a, eq-eqb v w b))
    (λ e.
    by_test (eqb i j)
    (λ p.
    let apart : v ≡ w → ⊥ = λ q. eqb-false (i * n + v) (j * n + w) e (ap₂ (λ x y. x * n + y) (eqb-true i j p) q) in
    rw (e, p, ne_eqb v w apart))
    (λ p. rw (e, p)))

-- The rows below i are done, and of row i the places below v.
pub record Rows {X : Type 0} (n i v : ℕ) (new : ℕ → ℕ → X) (cell : ℕ → X) : Type 0 where
  pub done : (j w : ℕ) → w < n → j * n + w < i * n + v → cell (j * n + w) ≡ new j w

pub rows_none : {X : Type 0} {n : ℕ} {new : ℕ → ℕ → X} {cell : ℕ → X} → Rows n 0 0 new cell
rows_none = record { done = λ j w k l. absurd (omega arith) }

module _ {X : Type 0} {n i : ℕ} {new : ℕ → ℕ → X} {cell : ℕ → X} where
  pub rows_place : (v : ℕ) {z : X} → v < n → z ≡ new i v → Rows n i v new cell
      → Rows n i (suc v) new (λ p. cond (eqb (i * n + v) p) z (cell p))
  rows_place v {z} l e h =
      record {
        done = λ j w k less.
            by_test (eqb (i * n + v) (j * n + w))
            (λ q.
            let (a, b) = one_entry i v j w l k (eqb-true (i * n + v) (j * n + w) q) in
            rw q (e ∙ ap₂ new a b))
            (λ q. rw q (h.done j w k (omega (arith, eqb-false (i * n + v) (j * n + w) q))));
      }

  pub rows_next : Rows n i n new cell → Rows n (suc i) 0 new cell
  rows_next h = record { done = λ j w k l. h.done j w k (omega arith) }

  pub rows_at : Rows n i 0 new cell → (j v : ℕ) → j < i → v < n → cell (j * n + v) ≡ new j v
  rows_at h j v l k = h.done j v k (omega (arith, digits_lt l k))

-- ---- a table of n rows of n places that held `old`, filled anew

-- The rows below i are done, and of row i the places below v.
pub record Rewritten {X : Type 0} (n i v : ℕ) (new old : ℕ → ℕ → X) (cell : ℕ → X) : Type 0 where
  pub filled : Rows n i v new cell
  pub left : (j w : ℕ) → j < n → w < n → i * n + v ≤ j * n + w → cell (j * n + w) ≡ old j w

module _ {X : Type 0} {n : ℕ} {new old : ℕ → ℕ → X} {cell : ℕ → X} where
  pub rewrite_none : ((j w : ℕ) → j < n → w < n → cell (j * n + w) ≡ old j w) → Rewritten n 0 0 new old cell
  rewrite_none h = record { filled = rows_none; left = λ j w l k _. h j w l k }

  module _ {i : ℕ} where
    pub rewrite_place : (v : ℕ) {z : X} → i < n → v < n → (cell (i * n + v) ≡ old i v → z ≡ new i v) → Rewritten n i v new old cell
        → Rewritten n i (suc v) new old (λ p. cond (eqb (i * n + v) p) z (cell p))
    rewrite_place v l k f h =
        record {
          filled = rows_place v k (f (h.left i v l k (omega arith))) h.filled;
          left = λ j w a b g. rw (ne_eqb (i * n + v) (j * n + w) (omega arith)) (h.left j w a b (omega arith));
        }

    pub rewrite_next : Rewritten n i n new old cell → Rewritten n (suc i) 0 new old cell
    rewrite_next h = record { filled = rows_next h.filled; left = λ j w a b g. h.left j w a b (omega arith) }
