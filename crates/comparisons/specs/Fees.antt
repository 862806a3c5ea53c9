-- Moved fees (document 02, ask 9): what becomes of verdict, log and distances. About outcomes, as the demands are.
-- Rests on requests with other weights and on the demands.
use Rattle.std.specs.Prelude.{◌≡◌, ◌↔◌, ◌≢◌, List, ℕ, ◌+◌, ◌*◌, ◌<◌, ℤ, ◌+ℤ◌, ◌-ℤ◌, take}
use Rattle.plans.specs.Limits.{far}
use Rattle.plans.specs.Plan.{distances, parents, results_of}
use Rattle.limits.specs.WithinLimits.{header_in}
use Rattle.demands.specs.Run.{Lent, outcome}
use Rattle.demands.specs.Demands.{RanOn, length_told, verdict_told, log_told, result_of}
use Rattle.comparisons.specs.Repriced.{FeesMoved}
use Rattle.comparisons.specs.Rows.{RowFrom, distance_in}

-- The distance of v from s, before and after: unreached in both or in neither, and otherwise more by the number of s less that of v.
pub record Rises (fee : ℕ → ℤ) (s v : ℕ) (before after : ℤ) : Type 0 where
  pub unreached : (before ≡ far) ↔ (after ≡ far)
  pub rises : before ≢ far → after ≡ before +ℤ (fee s -ℤ fee v)

-- The verdict stays, and the log with it. Without a negative cycle each row rises.
pub record Moved (fee : ℕ → ℤ) (request : List ℕ) (lent : Lent) (request' : List ℕ) (lent' : Lent) : Type 0 where
  pub verdict : verdict_told request' lent' ≡ verdict_told request lent
  pub log : log_told request' lent' ≡ log_told request lent
  pub totals : verdict_told request lent ≡ 0 → (s r : ℕ) → RowFrom request s r → (v : ℕ) → v < (header_in request).vertices
      → Rises fee s v (distance_in request lent r v) (distance_in request' lent' r v)

-- Of any two runs, the second with fees moved: the numbers are any integers, one for each vertex.
abbrev pub MovedFees : Type 0
MovedFees = (fee : ℕ → ℤ) (request request' : List ℕ) (lent lent' : Lent) → RanOn request lent → RanOn request' lent'
    → FeesMoved fee request request' → Moved fee request lent request' lent'

-- Without rows: of a method that gives parents, which has one source, and of method 4. And the whole answer stays, 0 or 12, rounds, log length and
-- verdict, and that many words of the log.
pub record MovedByMethod (fee : ℕ → ℤ) (request : List ℕ) (lent : Lent) (request' : List ℕ) (lent' : Lent) : Type 0 where
  pub answer : (outcome request' lent').answer ≡ (outcome request lent).answer
  pub log : take (length_told request lent) (outcome request' lent').log ≡ take (length_told request lent) (outcome request lent).log
  pub one_source : verdict_told request lent ≡ 0 → (results_of (header_in request) parents).count ≢ 0
      → (v : ℕ) → v < (header_in request).vertices
      → Rises fee (header_in request).source v (result_of request lent distances v) (result_of request' lent' distances v)
  pub table : verdict_told request lent ≡ 0 → (header_in request).method ≡ 4
      → (i j : ℕ) → i < (header_in request).vertices → j < (header_in request).vertices
      → Rises fee i j (result_of request lent distances (i * (header_in request).vertices + j))
      (result_of request' lent' distances (i * (header_in request).vertices + j))

abbrev pub MovedFeesByMethod : Type 0
MovedFeesByMethod = (fee : ℕ → ℤ) (request request' : List ℕ) (lent lent' : Lent) → RanOn request lent → RanOn request' lent'
    → FeesMoved fee request request' → MovedByMethod fee request lent request' lent'
