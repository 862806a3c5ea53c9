-- Words whose depths are found one by one, wherever the cells' depths are kept: what holds before word k, and that the greatest of all is found.
-- Rests on Words and lists' Slices.
use mathlib.Core.Path.{◌≡◌, sym, ap, ◌∙◌}
use mathlib.Core.Bool.{Bool, cond}
use mathlib.Core.List.{List}
use mathlib.Core.Option.{Option, none, some}
use Prim.Native.Nat.{ℕ, ◌+◌, ◌*◌, ◌^◌, ◌<◌, ◌≤◌, max}
use native.Mathlib.Nat.{max-zero, zero-max}
use native.Mathlib.Omega.{arith}
use lib.Dec.{T, eqb}
use lib.ListN.{length, get_or, drop, drop_of_length-le}
use Rattle.lists.proofs.Slices as Slices
use Rattle.machine.specs.Instruction.{Instruction, SET, COPY, ADD, LESS, EQUAL, BOTH, MOVEIF, OPEN}
use Rattle.machine.specs.Word.{decode, admissible}
use Rattle.machine.specs.Log.{Admitted}
use Rattle.machine.specs.Depth.{depth, taken, target, greatest_from, decode_all, depth_of}
use Rattle.machine.proofs.Every.{all_at}
use Rattle.deepening.specs.Word.{depth_by, deepened_by, Deepens, NoDeeper}
use Rattle.deepening.proofs.Words.{greatest_first}

pub can : (count : ℕ) (words : List ℕ) → Admitted count words → (k : ℕ) → k < length words → T (admissible count (get_or words k 0))
can count words a k h = all_at (λ w. T (admissible count w)) words k 0 a h

-- ---- how deep a word can be

module _ (most : ℕ) (at : ℕ → ℕ) (low : NoDeeper most at) where
  deep_most : (i : Instruction ℕ) → depth i at ≤ most + 6
  deep_most (SET d c) = omega arith
  deep_most (COPY d a) = omega (arith, low a)
  deep_most (ADD d a b) = omega (arith, low a, low b)
  deep_most (LESS d a b) = omega (arith, low a, low b)
  deep_most (EQUAL d a b) = omega (arith, low a, low b)
  deep_most (BOTH d a b) = omega (arith, low a, low b)
  deep_most (MOVEIF d a b) = omega (arith, low a, low b, low d)
  deep_most (OPEN a) = omega (arith, low a)

  pub by_most : (o : Option (Instruction ℕ)) → depth_by o at ≤ most + 6
  unfolding depth_by
  by_most none = omega arith
  by_most (some i) = deep_most i

  bound : (b : Bool) (x y : ℕ) → y ≤ most → cond b x y ≤ max most x
  bound Bool.true x y l = omega arith
  bound Bool.false x y l = omega arith

  takes_most : (o : Option ℕ) (x : ℕ) → NoDeeper (max most x) (taken eqb o x at)
  takes_most none x a = omega (arith, low a)
  takes_most (some d) x a = bound (eqb d a) x (at a) (low a)

  after_most : (o : Option (Instruction ℕ)) → NoDeeper (max most (depth_by o at)) (deepened_by o at)
  unfolding depth_by deepened_by
  after_most none a = omega (arith, low a)
  after_most (some i) a = takes_most (target i) (depth i at) a

-- ---- before word k

-- The greatest depth so far and that of the words left make the greatest of all, and no cell is deeper than it.
pub record Deepening (words : List ℕ) (at : ℕ → ℕ) (rounds k : ℕ) : Type 0 where
  pub rest : max rounds (greatest_from eqb (decode_all (drop k words)) at) ≡ depth_of words
  pub low : NoDeeper rounds at
  pub few : rounds ≤ 6 * k

pub start : (words : List ℕ) (at : ℕ → ℕ) → NoDeeper 0 at → Deepening words at 0 0
unfolding depth_of
start words at fresh =
    record {
      rest = zero-max _ ∙ ap (greatest_from eqb (decode_all words)) (λ i a. zero_of a i);
      low = fresh;
      few = omega arith;
    }
  where
    zero_of : (a : ℕ) → at a ≡ 0
    zero_of a = omega (arith, fresh a)

pub next : {words : List ℕ} {at at' : ℕ → ℕ} {rounds k : ℕ} → Deepening words at rounds k → k < length words
    → (x : ℕ) → Deepens (get_or words k 0) at x at' → Deepening words at' (max rounds x) (k + 1)
next {words} {at} {at'} {rounds} {k} t h x d =
    let w = get_or words k 0 in
    let left : at' ≡ deepened_by (decode w) at = λ i a. d.leaves a i in
    let whole = ap (λ (ws : List ℕ). greatest_from eqb (decode_all ws) at) (Slices.next words k 0 h) ∙ greatest_first at w (drop (k + 1) words) in
    let l = by_most rounds at t.low (decode w) in
    record {
      rest = rw left (omega (arith, t.rest, whole, d.deep));
      low = λ a. omega (arith, after_most rounds at t.low (decode w) a, d.leaves a, d.deep);
      few = omega (arith, t.few, d.deep);
    }

-- A depth takes 31 bits at most, and so does that of the next word.
pub bounded : {words : List ℕ} {at : ℕ → ℕ} {rounds k : ℕ} → Deepening words at rounds k → k < length words → length words ≤ 2 ^ 24
    → NoDeeper (2 ^ 31) at
bounded t h few a = omega (arith, t.low a, t.few)

pub done : {words : List ℕ} {at : ℕ → ℕ} {rounds k : ℕ} → Deepening words at rounds k → length words ≤ k → rounds ≡ depth_of words
unfolding greatest_from decode_all
done {words} {at} {rounds} {k} t h =
    sym (max-zero rounds)
    ∙ ap (λ (ws : List ℕ). max rounds (greatest_from eqb (decode_all ws) at)) (sym (drop_of_length-le words h))
    ∙ t.rest
