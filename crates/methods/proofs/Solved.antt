-- A plan over edges that leaves the distances, the parents and the flag of a state: what it leaves is what is asked, if the state is so.
-- Rests on what methods over edges share, and on graph's Parents.
use mathlib.Core.Path.{◌≡◌}
use mathlib.Core.Logic.Iff
use mathlib.Core.Logic.{◌↔◌}
use mathlib.Core.Bool.{Bool, true, false}
use mathlib.Core.List.{List}
use Prim.Native.Nat.{ℕ, ◌+◌, ◌^◌, ◌<◌, ◌≤◌}
use lib.IntN.{ℤ, pos}
use lib.ListN.{length}
use Rattle.machine.specs.Instruction.{Instruction}
use Rattle.machine.specs.Effect.{bit, cell_at}
use Rattle.graph.specs.Walk.{Edge, NegativeCycle}
use Rattle.graph.specs.Shortest.{Shortest}
use Rattle.graph.specs.BellmanFord.{network, numbered, State}
use Rattle.graph.proofs.Parents.{carried}
use Rattle.methods.specs.Bank.{Summed}
use Rattle.methods.specs.Edges.{Places, Laid, Solved}
use Rattle.methods.proofs.Sums.{summed_map}
use Rattle.methods.proofs.Bits.{bit_one, bit_zero}
use Rattle.methods.proofs.OverEdges.{Sum, near_exact, below_far, ends_below}

-- The cells left hold it.
pub record Holding (at : Places) (far limit : ℕ) (plan : List (Instruction ℕ)) (n : ℕ) (st : State) (slack : Bool) (cells left : List ℤ) : Type 0 where
  pub flag : cell_at left at.verdict ≡ bit slack
  pub dist : (v : ℕ) → v < n → cell_at left (at.dist v) ≡ st.dist v
  pub parent : (v : ℕ) → v < n → cell_at left (at.parent v) ≡ st.parent v
  pub rest : (k : ℕ) → at.inputs.count ≤ k → cell_at left k ≡ cell_at cells k
  pub long : length left ≡ length cells
  pub sums : Summed (Sum far limit) plan cells

module _ (at : Places) (plan : List (Instruction ℕ)) {far limit : ℕ} {edge : ℕ → Edge} {n m source : ℕ} {cells left : List ℤ}
    (laid : Laid at.inputs limit edge n m source cells) (fits : far + limit < 2 ^ 63) (st : State) (slack : Bool)
    (h : Holding at far limit plan n st slack cells left) where
  pub solved : ((slack ≡ true) ↔ NegativeCycle (network edge m) source)
      → ((slack ≡ false) ↔ ¬ NegativeCycle (network edge m) source)
      → (slack ≡ false → Shortest (network edge m) (numbered edge m) (pos far) n source st.dist st.parent)
      → Solved at far plan edge n m source cells left
  solved found clear shortest =
      record {
        cycle = rw h.flag (Iff.trans (bit_one slack) found);
        none = rw h.flag (Iff.trans (bit_zero slack) clear);
        shortest =
            λ c.
            carried (network edge m) (pos far) n source _ _ h.dist (numbered edge m) _ _
            (ends_below edge n m laid.limited) laid.source_below h.parent (shortest (clear.1 c));
        rest = h.rest;
        long = h.long;
        exact = summed_map (Sum far limit) _ (near_exact far limit fits) plan cells h.sums;
        below_far = summed_map (Sum far limit) _ (below_far far limit) plan cells h.sums;
      }
