-- Method 3 on a bank: where its cells are, and room for the totals that it forms.
-- Rests on its plan.
use Rattle.std.specs.Prelude.{List, ℕ, suc, ◌+◌, ◌*◌, ◌^◌, ◌<◌, pos}
use Rattle.machine.specs.Instruction.{Instruction}
use Rattle.plans.specs.Regions.{address, cell}
use Rattle.plans.specs.Method3 as Method3
use Rattle.plans.specs.Method3.{from, B, weight, D, P, X, starts, cell_count}
use Rattle.methods.specs.Edges.{Places}

-- `far` lies above what n edges can sum up to; and every sum fits a cell.
pub record Room (far limit n : ℕ) : Type 0 where
  pub deep : n * limit < far
  pub fits : far + limit < 2 ^ 63

abbrev pub places : (n m : ℕ) → Places
places n m =
    record {
      inputs = record {
        count = cell_count n m;
        from = λ i. cell (starts n m) (from i);
        to = λ i. cell (starts n m) (B (suc i));
        weight = λ i. cell (starts n m) (weight i);
      };
      dist = λ v. cell (starts n m) (D v);
      parent = λ v. cell (starts n m) (P v);
      verdict = cell (starts n m) (X 8);
    }

abbrev pub plan : (far n m source : ℕ) → List (Instruction ℕ)
plan far n m source = Method3.plan (address (starts n m)) (pos far) n m source
