-- A method over private edges on a bank: where its cells are, what it is given, and what it leaves.
-- Rests on what is shortest.
use Rattle.std.specs.Prelude.{◌≡◌, ◌↔◌, ◌≢◌, List, ℕ, ◌<◌, ◌≤◌, ℤ, pos, nat_abs, ◌+ℤ◌, length, ◌<ℤ◌}
use Rattle.machine.specs.Instruction.{Instruction}
use Rattle.machine.specs.Effect.{cell_at}
use Rattle.graph.specs.Walk.{Edge, NegativeCycle}
use Rattle.graph.specs.Shortest.{Shortest}
use Rattle.graph.specs.BellmanFord.{network, numbered}
use Rattle.methods.specs.Bank.{Summed, Exact}

-- The number of cells, and those of edge i.
pub record Inputs : Type 0 where
  pub count : ℕ
  pub from : (i : ℕ) → ℕ
  pub to : (i : ℕ) → ℕ
  pub weight : (i : ℕ) → ℕ

-- In a method with one source, those of vertex v and of the verdict, too.
pub record Places : Type 0 where
  pub inputs : Inputs
  pub dist : (v : ℕ) → ℕ
  pub parent : (v : ℕ) → ℕ
  pub verdict : ℕ

-- Ends below n, weights from -limit to limit.
pub record Limited (limit : ℕ) (edge : ℕ → Edge) (n m : ℕ) : Type 0 where
  pub from_below : (i : ℕ) → i < m → (edge i).from < n
  pub to_below : (i : ℕ) → i < m → (edge i).to < n
  pub weight_most : (i : ℕ) → i < m → nat_abs (edge i).weight ≤ limit

-- What intake supplies.
pub record Laid (at : Inputs) (limit : ℕ) (edge : ℕ → Edge) (n m source : ℕ) (cells : List ℤ) : Type 0 where
  pub enough : at.count ≤ length cells
  pub from : (i : ℕ) → i < m → cell_at cells (at.from i) ≡ pos (edge i).from
  pub to : (i : ℕ) → i < m → cell_at cells (at.to i) ≡ pos (edge i).to
  pub weight : (i : ℕ) → i < m → cell_at cells (at.weight i) ≡ (edge i).weight
  pub limited : Limited limit edge n m
  pub source_below : source < n

-- What the plan of a method with one source leaves.
pub record Solved (at : Places) (far : ℕ) (plan : List (Instruction ℕ)) (edge : ℕ → Edge) (n m source : ℕ) (cells left : List ℤ) : Type 0 where
  pub cycle : (cell_at left at.verdict ≡ pos 1) ↔ NegativeCycle (network edge m) source
  pub none : (cell_at left at.verdict ≡ pos 0) ↔ ¬ NegativeCycle (network edge m) source
  pub shortest : ¬ NegativeCycle (network edge m) source
      → Shortest (network edge m) (numbered edge m) (pos far) n source
      (λ v. cell_at left (at.dist v)) (λ v. cell_at left (at.parent v))
  pub rest : (k : ℕ) → at.inputs.count ≤ k → cell_at left k ≡ cell_at cells k
  pub long : length left ≡ length cells
  pub exact : Exact plan cells
  -- Each ADD takes a distance and a weight: from a reached vertex the total is below `far`.
  pub below_far : Summed (λ x w. x ≢ pos far → (x +ℤ w) <ℤ pos far) plan cells
