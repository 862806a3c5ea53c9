-- The one row of a method that gives parents, and the rows of method 4. Rests on demands' Sources.
use mathlib.Core.Path.{◌≡◌, refl, ap}
use mathlib.Core.Logic.{◌≢◌}
use mathlib.Core.List.{List}
use Prim.Native.Nat.{ℕ, ◌<◌}
use native.Mathlib.Omega.{arith}
use Rattle.plans.specs.Plan.{distances, parents, results_of}
use Rattle.limits.specs.WithinLimits.{header_in}
use Rattle.demands.specs.Run.{Lent}
use Rattle.demands.specs.Demands.{RanOn, result_of}
use Rattle.demands.proofs.Ran.{allowed}
use Rattle.demands.proofs.Sources.{single, every, vertex_at, vertices_long}
use Rattle.comparisons.specs.Rows.{RowFrom, distance_in}

module _ (request : List ℕ) (lent : Lent) (ran : RanOn request lent) where
  pub own_row : (results_of (header_in request) parents).count ≢ 0 → RowFrom request (header_in request).source 0
  own_row given =
      let one = single (header_in request) (allowed request lent ran) given in
      record { there = rw one (omega arith); source = rw one refl }

  pub vertex_row : (header_in request).method ≡ 4 → (s : ℕ) → s < (header_in request).vertices → RowFrom request s s
  vertex_row four s l =
      let all = every (header_in request) four in
      let n = (header_in request).vertices in
      record { there = rw all (omega (arith, vertices_long n)); source = rw all (vertex_at n s l) }

pub first : (request : List ℕ) (lent : Lent) (v : ℕ) → distance_in request lent 0 v ≡ result_of request lent distances v
first request lent v = ap (result_of request lent distances) (omega arith)
