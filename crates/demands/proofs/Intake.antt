-- The starting cells of a run: each needed one holds one field of a word or 0, as the header says, and the others are as lent; there are as many as were lent.
-- Rests on the laws of limits and of intake.
use mathlib.Core.Path.{◌≡◌}
use mathlib.Core.List.{List}
use Prim.Native.Nat.{ℕ, ◌<◌, ◌≤◌}
use lib.ListN.{length}
use Rattle.machine.specs.Effect.{cell_at}
use Rattle.plans.specs.Plan.{cells_of}
use Rattle.limits.specs.WithinLimits.{header_in, words_in}
use Rattle.intake.specs.Intake.{source_of, laid}
use Rattle.intake.proofs.Laid.{start_long, start_needed, start_rest}
use Rattle.demands.specs.Run.{Lent, start_of}

module _ (request : List ℕ) (lent : Lent) where
  pub laid_cells : (k : ℕ) → k < cells_of (header_in request)
      → cell_at (start_of request lent) k ≡ laid (words_in request) (source_of (header_in request) k)
  laid_cells = start_needed (header_in request) (words_in request) lent.cells

  pub lent_cells : (k : ℕ) → cells_of (header_in request) ≤ k → cell_at (start_of request lent) k ≡ cell_at lent.cells k
  lent_cells = start_rest (header_in request) (words_in request) lent.cells

  pub long : cells_of (header_in request) ≤ length lent.cells → length (start_of request lent) ≡ length lent.cells
  long = start_long (header_in request) (words_in request) lent.cells
