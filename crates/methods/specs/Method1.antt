-- Method 1 on a bank: where its cells are, and room for the totals that it forms.
-- Rests on its plan.
use Rattle.std.specs.Prelude.{List, ℕ, suc, ◌+◌, ◌-◌, ◌*◌, ◌^◌, ◌<◌, pos}
use Rattle.machine.specs.Instruction.{Instruction}
use Rattle.plans.specs.Regions.{address, cell}
use Rattle.plans.specs.Method1 as Method1
use Rattle.plans.specs.Method1.{from, to, weight, D, P, X, starts, cell_count}
use Rattle.methods.specs.Edges.{Places}

-- `far` lies above what all edges of n - 1 passes, and one more, can sum up to; and every sum fits a cell.
pub record Room (far limit n m : ℕ) : Type 0 where
  pub deep : suc ((n - 1) * m) * limit < far
  pub fits : far + limit < 2 ^ 63

-- By a place for each name: method 5 has others, and more names.
abbrev pub places_by : (count : ℕ) (place : ℕ × ℕ → ℕ) → Places
places_by count place =
    record {
      inputs = record { count = count; from = λ i. place (from i); to = λ i. place (to i); weight = λ i. place (weight i) };
      dist = λ v. place (D v);
      parent = λ v. place (P v);
      verdict = place (X 7);
    }

abbrev pub places : (n m : ℕ) → Places
places n m = places_by (cell_count n m) (cell (starts n m))

abbrev pub plan : (far n m source : ℕ) → List (Instruction ℕ)
plan far n m source = Method1.plan (address (starts n m)) (pos far) n m source
