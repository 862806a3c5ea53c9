-- What a plan weighs, for any weight of an op: one law for every method. Lengths and openings are instances.
-- Rests on outlines and blocks.
use mathlib.Core.Path.{◌≡◌, refl, ap, ap₂}
use mathlib.Core.List.{List, [], ◌∷◌, map}
use Prim.Native.Nat.{ℕ, ◌+◌, ◌*◌}
use lib.IntN.{ℤ, pos}
use Rattle.machine.specs.Instruction.{Instruction, op_of}
use Rattle.machine.specs.Log.{sum_of}
use Rattle.plans.specs.declared.Counters.{Counters}
use Rattle.plans.specs.Outline.{inner, Line, set, copy, add, less, equal, both, moveif, opens, Outline, end, line, run, each, again, counted_to, start, times_of, instruction_of, instructions}
use Rattle.plans.proofs.Blocks.{sum_blocks}

abbrev pub weigh : {A : Type 0} (w : ℕ → ℕ) → List (Instruction A) → ℕ
weigh w = sum_of (λ i. w (op_of i))

-- The op of a line, whatever the header and the counters.
abbrev op_in : Line → ℕ
op_in x = op_of (instruction_of (λ r p. r) (pos 0) 0 0 0 start x)

-- A loop weighs its count times its body.
abbrev pub outline_weight : (n m : ℕ) (w : ℕ → ℕ) → Outline → ℕ
outline_weight n m w end = 0
outline_weight n m w (line x p) = w (op_in x) + outline_weight n m w p
outline_weight n m w (run c ls p) = times_of n m c * sum_of (λ x. w (op_in x)) ls + outline_weight n m w p
outline_weight n m w (each l c b p) = times_of n m c * outline_weight n m w b + outline_weight n m w p
outline_weight n m w (again c b p) = times_of n m c * outline_weight n m w b + outline_weight n m w p

module _ {A : Type 0} (name : (region place : ℕ) → A) (far : ℤ) (n m source : ℕ) (w : ℕ → ℕ) where
  op_is : (k : Counters) (x : Line) → op_of (instruction_of name far n m source k x) ≡ op_in x
  op_is k (set d z) = refl
  op_is k (copy d a) = refl
  op_is k (add d a b) = refl
  op_is k (less d a b) = refl
  op_is k (equal d a b) = refl
  op_is k (both d a b) = refl
  op_is k (moveif d a b) = refl
  op_is k (opens a) = refl

  lines_weight : (ls : List Line) (k : Counters)
      → weigh w (map (instruction_of name far n m source k) ls) ≡ sum_of (λ x. w (op_in x)) ls
  unfolding sum_of
  lines_weight [] k = refl
  lines_weight (x ∷ ls) k = ap₂ ◌+◌ (ap w (op_is k x)) (lines_weight ls k)

  pub outline_weight_is : (o : Outline) (k : Counters) → weigh w (instructions name far n m source o k) ≡ outline_weight n m w o
  unfolding instructions sum_of
  outline_weight_is end k = refl
  outline_weight_is (line x p) k = ap₂ ◌+◌ (ap w (op_is k x)) (outline_weight_is p k)
  outline_weight_is (run c ls p) k =
      sum_blocks (λ i. w (op_of i)) _ _ (λ j. lines_weight ls (counted_to inner j k)) (times_of n m c) _ _
      (outline_weight_is p k)
  outline_weight_is (each l c b p) k =
      sum_blocks (λ i. w (op_of i)) _ _ (λ j. outline_weight_is b (counted_to l j k)) (times_of n m c) _ _
      (outline_weight_is p k)
  outline_weight_is (again c b p) k =
      sum_blocks (λ i. w (op_of i)) _ _ (λ j. outline_weight_is b k) (times_of n m c) _ _
      (outline_weight_is p k)
