-- What follows from what holds of every sum on the way. And that not every run is exact.
-- Rests on the definitions alone.
use mathlib.Core.Path.{sym}
use mathlib.Core.List.{List, [], ◌∷◌}
use mathlib.Core.Option.{Option, none, some}
use Prim.Native.Nat.{ℕ, ◌-◌, ◌^◌}
use lib.IntN.{ℤ, pos, pos-ne-negsuc}
use Rattle.fields.specs.Fields.{signed_of, bits_of}
use Rattle.machine.specs.Instruction.{Instruction, ADD}
use Rattle.machine.specs.Effect.{wrap_add, cell_at, perform}
use Rattle.methods.specs.Bank.{summands, asked, Summed, Exact}

module _ (P Q : ℤ → ℤ → Type 0) (f : (x y : ℤ) → P x y → Q x y) where
  pub asked_map : {A : Type 0} (o : Option (A × A)) (at : A → ℤ) {B C : Type 0} → (B → C) → asked P o at B → asked Q o at C
  asked_map none at g h = g h
  asked_map (some (a, b)) at g h = (f (at a) (at b) h.0, g h.1)

  pub summed_map : (is : List (Instruction ℕ)) (cells : List ℤ) → Summed P is cells → Summed Q is cells
  unfolding Summed
  summed_map [] cells h = tt
  summed_map (i ∷ is) cells h = asked_map (summands i) (cell_at cells) (summed_map is (perform i cells)) h

-- An ADD that wraps is not exact: 2^63 - 1 and 1 give -2^63.
pub wraps : ¬ Exact (ADD 0 0 1 ∷ []) (pos (2 ^ 63 - 1) ∷ pos 1 ∷ [])
unfolding Summed wrap_add signed_of bits_of
wraps h = pos-ne-negsuc _ _ (sym h.0)

-- Each ADD adds what the words before it left: the second of two that double a cell wraps, the first does not.
pub wraps_later : ¬ Exact (ADD 0 0 0 ∷ ADD 0 0 0 ∷ []) (pos (2 ^ 62 - 1) ∷ [])
unfolding Summed perform wrap_add signed_of bits_of
wraps_later h = pos-ne-negsuc _ _ (sym h.1.0)
