-- A word's depth from those of its cells, and the depths that it leaves, by its op. Rests on machine's Parted and Admitted.
use mathlib.Core.Path.{◌≡◌, refl, ap, ◌∙◌}
use mathlib.Core.Bool.{cond}
use mathlib.Core.Logic.{◌≢◌}
use mathlib.Core.List.{List, ◌∷◌}
use mathlib.Core.Option.{Option, none, some}
use Prim.Native.Nat.{ℕ, ◌<◌, ◌≤◌, max}
use native.Mathlib.Omega.{arith}
use lib.Dec.{T, eqb}
use lib.ListN.{get_or}
use Rattle.lists.proofs.Test.{by_test}
use Rattle.machine.specs.Instruction.{Instruction}
use borrow.Author.Tests.{eqb-true, eqb-false}
use Rattle.machine.specs.Word.{FieldsAre, decode_at, decode, admissible_at}
use Rattle.machine.specs.Depth.{rounds, greatest_from, decode_all}
use Rattle.machine.proofs.Parted.{decoded, eight}
use Rattle.machine.proofs.Admitted.{set_d, open_a, open_zeros, rest_in}
use Rattle.deepening.specs.Word.{read_of, depth_from, depth_by, deepened_by, Deepens}

-- ---- what an op costs, and what it reads

pub six_most : (op : ℕ) → op < 8 → get_or rounds op 0 ≤ 6
six_most =
    eight (λ (op : ℕ). get_or rounds op 0 ≤ 6)
    (omega arith) (omega arith) (omega arith) (omega arith)
    (omega arith) (omega arith) (omega arith) (omega arith)

pub two_left : (op x y z : ℕ) → op < 8 → op ≢ 0 → op ≢ 1 → op ≢ 6 → op ≢ 7 → max x y ≡ read_of op x y z
unfolding read_of
two_left op x y z l =
    eight (λ (op : ℕ). op ≢ 0 → op ≢ 1 → op ≢ 6 → op ≢ 7 → max x y ≡ read_of op x y z)
    (λ n _ _ _. absurd (n refl))
    (λ _ n _ _. absurd (n refl))
    (λ _ _ _ _. refl)
    (λ _ _ _ _. refl)
    (λ _ _ _ _. refl)
    (λ _ _ _ _. refl)
    (λ _ _ n _. absurd (n refl))
    (λ _ _ _ n. absurd (n refl))
    op l

pub read_most : (most op x y z : ℕ) → op < 8 → x ≤ most → y ≤ most → z ≤ most → read_of op x y z ≤ most
unfolding read_of
read_most most op x y z l a b c =
    eight (λ (op : ℕ). read_of op x y z ≤ most)
    (omega arith) (omega arith) (omega arith) (omega arith)
    (omega arith) (omega arith) (omega arith) (omega arith)
    op l

-- ---- a word's depth, and the depths that it leaves

module _ (op d a b : ℕ) (at : ℕ → ℕ) where
  pub of_set : op ≡ 0 → 1 ≡ depth_by (decode_at op d a b) at
  unfolding decode_at depth_by
  of_set e = rw e

  pub of_other : op < 8 → {x y z r : ℕ} → x ≡ at a → y ≡ at b → z ≡ at d → r ≡ depth_from op x y z → r ≡ depth_by (decode_at op d a b) at
  unfolding decode_at read_of depth_by
  of_other l p q t e =
      e
      ∙ rw (p, q, t)
      (eight (λ (o : ℕ). depth_from o (at a) (at b) (at d) ≡ depth_by (decode_at o d a b) at)
      (omega arith) (omega arith) (omega arith) (omega arith)
      (omega arith) (omega arith) (omega arith) (omega arith)
      op l)

  -- OPEN leaves the depths, every other word gives its own to d.
  pub by_open : op ≡ 7 → (k : ℕ) → at k ≡ deepened_by (decode_at op d a b) at k
  unfolding decode_at deepened_by
  by_open e k = rw e

  pub by_other : op < 7 → (k : ℕ) → cond (eqb d k) (depth_by (decode_at op d a b) at) (at k) ≡ deepened_by (decode_at op d a b) at k
  unfolding decode_at depth_by deepened_by
  by_other l k =
      eight
      (λ (o : ℕ). o < 7 → cond (eqb d k) (depth_by (decode_at o d a b) at) (at k) ≡ deepened_by (decode_at o d a b) at k)
      (λ _. refl)
      (λ _. refl)
      (λ _. refl)
      (λ _. refl)
      (λ _. refl)
      (λ _. refl)
      (λ _. refl)
      (λ no. let no : ⊥ = omega arith in absurd no)
      op (omega arith) l

-- The cells of an op other than SET are there: where it has no b or d, that field is 0, and a is below the count.
pub all_there : (count op d a b : ℕ) → T (admissible_at count op d a b) → op ≢ 0 → (a < count) × (b < count) × (d < count)
all_there count op d a b t n =
    by_test (eqb op 7)
    (λ e.
    let seven = eqb-true op 7 e in
    let h = open_a count op d a b t seven in
    let zeros = open_zeros count op d a b t seven in
    (h, omega arith, omega arith))
    (λ e. let h = rest_in count op d a b t n (eqb-false op 7 e) in (h.2, h.3, h.1))

-- So is the cell that it writes.
pub d_there : (count op d a b : ℕ) → T (admissible_at count op d a b) → op ≢ 7 → (op < 7) × (d < count)
d_there count op d a b t n =
    by_test (eqb op 0)
    (λ e. let z = eqb-true op 0 e in (omega arith, set_d count op d a b t z))
    (λ e. let h = rest_in count op d a b t (eqb-false op 0 e) n in (h.0, h.1))

-- ---- a word, by its fields

module _ {w op d a b : ℕ} (f : FieldsAre w op d a b) {at : ℕ → ℕ} {x : ℕ} (deep : x ≡ depth_by (decode_at op d a b) at) where
  pub deepens_open : op ≡ 7 → Deepens w at x at
  deepens_open e = record { deep = rw (decoded f) deep; leaves = λ k. rw (decoded f) (by_open op d a b at e k) }

  pub deepens_other : {at' : ℕ → ℕ} → op < 7 → ((k : ℕ) → at' k ≡ cond (eqb d k) x (at k)) → Deepens w at x at'
  deepens_other l h =
      record {
        deep = rw (decoded f) deep;
        leaves = λ k. h k ∙ ap (λ (y : ℕ). cond (eqb d k) y (at k)) deep ∙ rw (decoded f) (by_other op d a b at l k);
      }

-- ---- a word before others

module _ (at : ℕ → ℕ) where
  first : (o : Option (Instruction ℕ)) (ws : List ℕ) → (w : ℕ) → decode w ≡ o
      → greatest_from eqb (decode_all (w ∷ ws)) at ≡ max (depth_by o at) (greatest_from eqb (decode_all ws) (deepened_by o at))
  unfolding greatest_from decode_all depth_by deepened_by
  first none ws w e = rw e (omega arith)
  first (some i) ws w e = rw e

  pub greatest_first : (w : ℕ) (ws : List ℕ)
      → greatest_from eqb (decode_all (w ∷ ws)) at ≡ max (depth_by (decode w) at) (greatest_from eqb (decode_all ws) (deepened_by (decode w) at))
  greatest_first w ws = first (decode w) ws w refl
