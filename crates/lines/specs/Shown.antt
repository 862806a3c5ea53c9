-- A number as a line shows it, and a dash where there is none. Rests on text's Text.
use Rattle.std.specs.Prelude.{Option, Some, None, List, [], ◌∷◌, ℕ, ℤ}
use Rattle.text.specs.Text.{dash, signed}

abbrev pub shown : Option ℤ → List ℕ
shown None = dash ∷ []
shown (Some z) = signed z
