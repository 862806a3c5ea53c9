-- The cells' depths in a table. Rests on the machine's words.
use Rattle.std.specs.Prelude.{Bool, true, ◌&&◌, List, [], ◌∷◌, ℕ, get_or}
use Rattle.machine.specs.Word.{admissible}

abbrev pub depths_in : (table : List ℕ) → ℕ → ℕ
depths_in table a = get_or table a 0

-- Whether every word keeps to the first `count` cells.
unfoldable pub enough : (count : ℕ) → (words : List ℕ) → Bool
enough count [] = true
enough count (w ∷ ws) = admissible count w && enough count ws
