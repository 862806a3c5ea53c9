-- Rows of distances, for every method: which row is from which source. Rests on the demands.
use Rattle.std.specs.Prelude.{◌≡◌, List, ℕ, ◌+◌, ◌*◌, ◌<◌, ℤ, length, get_or}
use Rattle.plans.specs.Plan.{distances}
use Rattle.limits.specs.WithinLimits.{header_in}
use Rattle.demands.specs.Run.{Lent}
use Rattle.demands.specs.Network.{sources_of}
use Rattle.demands.specs.Demands.{result_of}

-- Row r is the distances from s. In method 4 there is a row for each vertex, in the others one, from the header's source.
pub record RowFrom (request : List ℕ) (s r : ℕ) : Type 0 where
  pub there : r < length (sources_of (header_in request))
  pub source : get_or (sources_of (header_in request)) r 0 ≡ s

-- The distance of v in row r.
abbrev pub distance_in : (request : List ℕ) → Lent → (r v : ℕ) → ℤ
distance_in request lent r v = result_of request lent distances (r * (header_in request).vertices + v)
