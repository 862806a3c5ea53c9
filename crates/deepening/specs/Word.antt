-- A word's depth, and what it does to the cells' depths, by its instruction.
-- Rests on the machine's depths.
use Rattle.std.specs.Prelude.{◌≡◌, [], ◌∷◌, ℕ, ◌+◌, ◌≤◌, max, eqb, get_or}
use Rattle.std.proofs.Math.Option.{Option, none, some}
use Rattle.machine.specs.Instruction.{Instruction}
use Rattle.machine.specs.Word.{decode}
use Rattle.machine.specs.Depth.{rounds, depth, deepened}

-- By op: the greatest of the depths that it reads where [a] is at x, [b] at y and [d] at z, and its own.
unfoldable pub read_of : (op x y z : ℕ) → ℕ
read_of op x y z = get_or (0 ∷ x ∷ max x y ∷ max x y ∷ max x y ∷ max x y ∷ max (max x y) z ∷ x ∷ []) op 0

abbrev pub depth_from : (op x y z : ℕ) → ℕ
depth_from op x y z = read_of op x y z + get_or rounds op 0

-- What depth a word's instruction, where it has one, has, and what depths it leaves.
unfoldable pub depth_by : Option (Instruction ℕ) → (at : ℕ → ℕ) → ℕ
depth_by none at = 0
depth_by (some i) at = depth i at

unfoldable pub deepened_by : Option (Instruction ℕ) → (at : ℕ → ℕ) → ℕ → ℕ
deepened_by none at = at
deepened_by (some i) at = deepened eqb i at

-- x is the depth of a word where the cells have `before`, and it leaves `after`.
pub record Deepens (word : ℕ) (before : ℕ → ℕ) (x : ℕ) (after : ℕ → ℕ) : Type 0 where
  pub deep : x ≡ depth_by (decode word) before
  pub leaves : (a : ℕ) → after a ≡ deepened_by (decode word) before a

-- No cell is deeper than `most`.
abbrev pub NoDeeper : (most : ℕ) (at : ℕ → ℕ) → Type 0
NoDeeper most at = (a : ℕ) → at a ≤ most
