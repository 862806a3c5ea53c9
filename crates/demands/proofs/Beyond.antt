-- What lies beyond the needed parts of the lent buffers stays as it was.
-- Rests on the outcome of a run.
use mathlib.Core.Path.{◌≡◌, refl, sym, ap, ◌∙◌}
use mathlib.Core.List.{List}
use Prim.Native.Nat.{ℕ, ◌+◌, ◌-◌}
use native.Mathlib.Omega.{arith}
use lib.IntN.{pos}
use lib.ListN.{length, drop, length-drop}
use lib.Seq.{drop_at, ext_get_or, get_or-drop}
use Rattle.machine.specs.Effect.{cell_at}
use Rattle.machine.proofs.Carried.{length_after}
use Rattle.plans.specs.Plan.{cells_of, results_of}
use Rattle.limits.specs.Refusal.{log_length_of}
use Rattle.limits.specs.WithinLimits.{header_in}
use Rattle.intake.proofs.Copied.{copied_beyond}
use Rattle.demands.specs.Run.{Lent, start_of, log_of_run, cells_left, outcome}
use Rattle.demands.specs.Demands.{RanOn, Beyond}
use Rattle.demands.proofs.Intake.{lent_cells, long}
use Rattle.demands.proofs.Taken.{enough}
use Rattle.demands.proofs.Ran.{inside, leaves, by_verdict, cells_are, log_is, log_long}

module _ (request : List ℕ) (lent : Lent) (ran : RanOn request lent) where
  abbrev needed : ℕ
  needed = cells_of (header_in request)

  other_cell : (k : ℕ) → cell_at (cells_left request lent) (needed + k) ≡ cell_at lent.cells (needed + k)
  other_cell k =
      (leaves request lent ran).rest (needed + k) (omega arith)
      ∙ lent_cells request lent (needed + k) (omega arith)

  same_length : length (drop needed (cells_left request lent)) ≡ length (drop needed lent.cells)
  same_length =
      length-drop needed (cells_left request lent)
      ∙ ap (λ (k : ℕ). k - needed) (length_after _ (start_of request lent) ∙ long request lent (enough request lent (inside request lent ran)))
      ∙ sym (length-drop needed lent.cells)

  other_cells : drop needed (cells_left request lent) ≡ drop needed lent.cells
  other_cells =
      ext_get_or (pos 0) _ _ same_length
      (λ i l. get_or-drop needed (cells_left request lent) i (pos 0) ∙ other_cell i ∙ sym (get_or-drop needed lent.cells i (pos 0)))

  pub beyond : Beyond (outcome request lent) request lent
  beyond =
      let log = log_of_run request lent in
      let size = log_long request lent ran in
      record {
        cells = rw (cells_are request lent ran) other_cells;
        log =
            rw (log_is request lent ran)
            (drop_at log _ (log_length_of (header_in request)) size ∙ ap (λ (k : ℕ). drop k lent.log) size);
        results = λ k.
            let n = (results_of (header_in request) k).count in
            by_verdict request lent ran (λ o. drop n (o.results k) ≡ drop n (lent.results k)) (λ e. copied_beyond n _ (lent.results k))
            (λ e. refl);
      }
