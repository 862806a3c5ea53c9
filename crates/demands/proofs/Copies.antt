-- The results of a run without a negative cycle are copies of cells that it leaves, whatever their kind.
-- Rests on the outcome of a run.
use mathlib.Core.Path.{◌≡◌}
use mathlib.Core.List.{List}
use Prim.Native.Nat.{ℕ, ◌+◌, ◌<◌}
use native.Mathlib.Omega.{arith}
use lib.IntN.{pos}
use lib.ListN.{get_or}
use Rattle.machine.specs.Effect.{cell_at}
use Rattle.plans.specs.Plan.{Kind, results_of}
use Rattle.limits.specs.WithinLimits.{header_in}
use Rattle.intake.proofs.Copied.{copied_at}
use Rattle.demands.specs.Run.{Lent, cells_left}
use Rattle.demands.specs.Demands.{RanOn, verdict_told, result_of}
use Rattle.demands.proofs.Ran.{by_verdict}

pub result_copied : (request : List ℕ) (lent : Lent) → RanOn request lent → verdict_told request lent ≡ 0
    → (k : Kind) (i : ℕ) → i < (results_of (header_in request) k).count
    → result_of request lent k i ≡ cell_at (cells_left request lent) ((results_of (header_in request) k).first + i)
result_copied request lent ran =
    by_verdict request lent ran
    (λ o. get_or o.answer.values 2 0 ≡ 0 → (k : Kind) (i : ℕ) → i < (results_of (header_in request) k).count
    → get_or (o.results k) i (pos 0) ≡ cell_at (cells_left request lent) ((results_of (header_in request) k).first + i))
    (λ e t k. copied_at (results_of (header_in request) k).count _ (lent.results k)) (λ e t. absurd (omega arith))
