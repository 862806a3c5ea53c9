-- What saved distances are, once they are converted (document 02, ask 7): those of the request in hundredths.
-- Rests on what is shortest, on what a run leaves and on what a conversion leaves.
use Rattle.std.specs.Prelude.{◌≡◌, List, [], ℕ, ◌+◌, ◌*◌, ◌<◌, ℤ, pos, length, get_or}
use Rattle.std.proofs.Math.Option.{none}
use Rattle.plans.specs.Limits.{far}
use Rattle.plans.specs.Plan.{distances, results_of}
use Rattle.limits.specs.WithinLimits.{header_in}
use Rattle.graph.specs.Shortest.{Distances, Shortest}
use Rattle.saved.specs.Saved.{old_far, conversion_outcome}
use Rattle.demands.specs.Run.{Lent}
use Rattle.demands.specs.Network.{network_in, naming_in}
use Rattle.demands.specs.Demands.{RanOn, verdict_told, result_of}
use Rattle.comparisons.specs.Repriced.{Hundredfold}
use Rattle.comparisons.specs.Rows.{RowFrom}

-- The words are a request's distances, a row for each source, with this mark for an unreached vertex; and those of its one row, with parents.
module _ (mark : ℤ) (request : List ℕ) (words : List ℤ) where
  abbrev pub DistancesOf : Type 0
  DistancesOf =
      (s r : ℕ) → RowFrom request s r
      → Distances (network_in request) mark (header_in request).vertices s (λ v. get_or words (r * (header_in request).vertices + v) (pos 0))

  abbrev pub ShortestOf : (parent : ℕ → ℤ) → Type 0
  ShortestOf parent =
      Shortest (network_in request) (naming_in request) mark (header_in request).vertices (header_in request).source
      (λ v. get_or words v (pos 0)) parent

-- Words are converted; a run with verdict 0 gives the same.
pub record Agrees (saved : List ℤ) (request : List ℕ) (lent : Lent) : Type 0 where
  pub converted : (conversion_outcome saved).answer ≡ record { number = 0; place = none; values = [] }
  pub verdict : verdict_told request lent ≡ 0
  pub same : (i : ℕ) → i < (results_of (header_in request) distances).count
      → result_of request lent distances i ≡ get_or (conversion_outcome saved).saved i (pos 0)

-- A request's distances with the old mark, and any run of the request in hundredths.
abbrev pub ConvertedAgrees : Type 0
ConvertedAgrees = (request request' : List ℕ) (lent' : Lent) → Hundredfold request request' → RanOn request' lent'
    → (saved : List ℤ) → length saved ≡ (results_of (header_in request) distances).count → DistancesOf old_far request saved → Agrees saved request' lent'

-- With parents: those that were saved beside the old distances are parents to the converted ones.
abbrev pub ConvertedShortest : Type 0
ConvertedShortest = (request request' : List ℕ) (lent' : Lent) → Hundredfold request request' → RanOn request' lent'
    → (saved : List ℤ) → length saved ≡ (header_in request).vertices → (parent : ℕ → ℤ) → ShortestOf old_far request saved parent
    → ShortestOf far request' (conversion_outcome saved).saved parent
