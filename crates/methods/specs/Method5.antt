-- Method 5 on a bank: where its cells are. Room for its totals is method 1's.
-- Rests on its plan and on method 1.
use Rattle.std.specs.Prelude.{List, ℕ, pos}
use Rattle.machine.specs.Instruction.{Instruction}
use Rattle.plans.specs.Regions.{address, cell}
use Rattle.plans.specs.Method5 as Method5
use Rattle.plans.specs.Method5.{Z, R, starts, cell_count}
use Rattle.methods.specs.Edges.{Places}
use Rattle.methods.specs.Method1.{places_by}

abbrev pub places : (n m : ℕ) → Places
places n m = places_by (cell_count n m) (cell (starts n m))

-- The cell of the destination, and those of the route.
abbrev pub goal : (n m : ℕ) → ℕ
goal n m = cell (starts n m) (Z 0)

abbrev pub step : (n m k : ℕ) → ℕ
step n m k = cell (starts n m) (R k)

abbrev pub plan : (far n m source : ℕ) → List (Instruction ℕ)
plan far n m source = Method5.plan (address (starts n m)) (pos far) n m source
