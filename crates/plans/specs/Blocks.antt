-- "For each v" as a list: what a loop in a plan stands for. Rests on nothing.
use Rattle.std.specs.Prelude.{List, [], ◌++◌, ℕ, zero, suc}

-- f 0 ++ f 1 ++ .. ++ f (count - 1)
unfoldable pub flat : {X : Type 0} (count : ℕ) (f : ℕ → List X) → List X
flat zero f = []
flat (suc count) f = flat count f ++ f count
