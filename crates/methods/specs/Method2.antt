-- Method 2 on a bank: what it is given, and what it leaves.
-- Rests on its plan and on what is shortest.
use Rattle.std.specs.Prelude.{◌≡◌, ◌⊎◌, ◌≢◌, List, ℕ, ◌+◌, ◌*◌, ◌^◌, ◌<◌, ◌≤◌, ℤ, pos, ◌+ℤ◌, length, ◌<ℤ◌}
use Rattle.machine.specs.Instruction.{Instruction}
use Rattle.machine.specs.Effect.{cell_at}
use Rattle.plans.specs.Regions.{address, cell}
use Rattle.plans.specs.Method2 as Method2
use Rattle.plans.specs.Method2.{U, D, P, starts, cell_count}
use Rattle.graph.specs.Shortest.{Shortest}
use Rattle.graph.specs.Dijkstra.{table_network, from_vertex}
use Rattle.methods.specs.Bank.{Summed, Exact}

-- `far` lies above what n edges can sum up to; and every sum fits a cell.
pub record Room (far limit n : ℕ) : Type 0 where
  pub deep : n * limit < far
  pub fits : far + far < 2 ^ 63

-- What intake supplies.
pub record Laid (far limit : ℕ) (table : ℕ → ℕ → ℕ) (n source : ℕ) (cells : List ℤ) : Type 0 where
  pub enough : cell_count n ≤ length cells
  pub entry : (u j : ℕ) → u < n → j < n → cell_at cells (cell (starts n) (U (u * n + j))) ≡ pos (table u j)
  pub entry_most : (u j : ℕ) → u < n → j < n → (table u j ≤ limit) ⊎ (table u j ≡ far)
  pub source_below : source < n

abbrev pub plan : (far n source : ℕ) → List (Instruction ℕ)
plan far n source = Method2.plan (address (starts n)) (pos far) n source

pub record Solved (far : ℕ) (table : ℕ → ℕ → ℕ) (n source : ℕ) (cells left : List ℤ) : Type 0 where
  pub shortest :
      Shortest (table_network far n table) from_vertex (pos far) n source
      (λ v. cell_at left (cell (starts n) (D v))) (λ v. cell_at left (cell (starts n) (P v)))
  pub rest : (k : ℕ) → cell_count n ≤ k → cell_at left k ≡ cell_at cells k
  pub long : length left ≡ length cells
  pub exact : Exact (plan far n source) cells
  -- Each ADD takes a distance and an entry of the table: of a reached vertex and an edge that is there the total is below `far`.
  pub below_far : Summed (λ x w. x ≢ pos far → w ≢ pos far → (x +ℤ w) <ℤ pos far) (plan far n source) cells
