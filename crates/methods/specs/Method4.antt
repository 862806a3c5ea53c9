-- Method 4 on a bank: where its cells are, room for the sums that it forms, and what it leaves.
-- Rests on its plan and on what is shortest.
use Rattle.std.specs.Prelude.{◌≡◌, ◌↔◌, List, ℕ, ◌+◌, ◌*◌, ◌^◌, ◌<◌, ◌≤◌, ℤ, pos, ◌+ℤ◌, length, ◌≤ℤ◌}
use Rattle.machine.specs.Instruction.{Instruction}
use Rattle.machine.specs.Effect.{cell_at}
use Rattle.plans.specs.Regions.{address, cell}
use Rattle.plans.specs.Method4 as Method4
use Rattle.plans.specs.Method4.{from, to, weight, D, X, starts, cell_count}
use Rattle.graph.specs.Walk.{Edge}
use Rattle.graph.specs.Shortest.{Distances}
use Rattle.graph.specs.BellmanFord.{network}
use Rattle.graph.specs.Floyd as Floyd
use Rattle.graph.specs.Floyd.{Anywhere, doubled}
use Rattle.methods.specs.Bank.{Summed, Exact}
use Rattle.methods.specs.Edges.{Inputs}

-- What stands for no walk while the plan runs (HIGH): `far` doubled 20 times.
abbrev pub high : (far : ℕ) → ℕ
high far = doubled far 20

-- Walks are told from HIGH, n negative entries can be counted, and every sum fits a cell.
pub record Room (far limit n : ℕ) : Type 0 where
  pub tables : Floyd.Room n limit far (high far)
  pub counts : n ≤ high far
  pub fits : high far + high far < 2 ^ 63

abbrev pub inputs : (n m : ℕ) → Inputs
inputs n m =
    record {
      count = cell_count n m;
      from = λ i. cell (starts n m) (from i);
      to = λ i. cell (starts n m) (to i);
      weight = λ i. cell (starts n m) (weight i);
    }

-- The cell of entry p of the table, by rows, and that of the verdict.
abbrev pub entry : (n m p : ℕ) → ℕ
entry n m p = cell (starts n m) (D p)

abbrev pub verdict : (n m : ℕ) → ℕ
verdict n m = cell (starts n m) (X 5)

abbrev pub plan : (far n m : ℕ) → List (Instruction ℕ)
plan far n m = Method4.plan (address (starts n m)) (pos far) n m

pub record Solved (far limit : ℕ) (edge : ℕ → Edge) (n m : ℕ) (cells left : List ℤ) : Type 0 where
  pub cycle : (cell_at left (verdict n m) ≡ pos 1) ↔ Anywhere (network edge m) n
  pub none : (cell_at left (verdict n m) ≡ pos 0) ↔ ¬ Anywhere (network edge m) n
  pub distances : ¬ Anywhere (network edge m) n → (i : ℕ) → i < n
      → Distances (network edge m) (pos far) n i (λ j. cell_at left (entry n m (i * n + j)))
  pub rest : (k : ℕ) → cell_count n m ≤ k → cell_at left k ≡ cell_at cells k
  pub long : length left ≡ length cells
  pub exact : Exact (plan far n m) cells
  -- Each sum, whatever the verdict, is from `limit`, doubled once for each stage, below 0 to twice HIGH.
  pub bounded : Summed (λ x w. (pos 0 ≤ℤ ((x +ℤ w) +ℤ pos (doubled limit n))) × ((x +ℤ w) ≤ℤ pos (high far + high far))) (plan far n m) cells
