-- Demand 2 once more, in the request's own numbers: what whoever has the request and the results can check by adding single prices. No network and no
-- walk is named. Rests on the fields of words and on what a run gives.
use Rattle.std.specs.Prelude.{◌≡◌, ◌⊎◌, ◌≢◌, List, [], ◌∷◌, ℕ, zero, suc, ◌+◌, ◌-◌, ◌*◌, ◌<◌, ◌≤◌, ℤ, pos, negsuc, ◌+ℤ◌, length, get_or, ◌≤ℤ◌}
use Rattle.plans.specs.Limits.{far}
use Rattle.plans.specs.Plan.{distances, parents, route}
use Rattle.limits.specs.Word.{from_field, to_field, weight_of, destination_in}
use Rattle.limits.specs.WithinLimits.{header_in, words_in, OneOf}
use Rattle.demands.specs.Run.{Lent}
use Rattle.demands.specs.Demands.{result_of}

-- Where k steps back from v lead, where `before` gives the yard before one; v itself where there is none.
abbrev pub steps_back : (before : ℕ → ℕ) → (v k : ℕ) → ℕ
steps_back before v zero = v
steps_back before v (suc k) = before (steps_back before v k)

-- By a lane's number, and by a yard's.
abbrev pub lane_before : (words : List ℕ) (v : ℕ) → (parent : ℤ) → ℕ
lane_before ws v (pos i) = from_field (get_or ws i 0)
lane_before ws v (negsuc i) = v

abbrev pub yard_before : (v : ℕ) → (parent : ℤ) → ℕ
yard_before v (pos u) = u
yard_before v (negsuc i) = v

-- Methods 1, 3 and 5, of lane words.
pub record LanesAddUp (words : List ℕ) (n m source : ℕ) (dist parent : ℕ → ℤ) : Type 0 where
  -- The source is at 0, and has no parent, nor has an unreached yard.
  pub source_zero : dist source ≡ pos 0
  pub source_mark : parent source ≡ negsuc 0
  pub unreached_mark : (v : ℕ) → v < n → dist v ≡ far → parent v ≡ negsuc 0
  -- A lane from a reached yard leads to a reached one, whose total is no more than with that lane.
  pub no_less : (i : ℕ) → i < m → dist (from_field (get_or words i 0)) ≢ far
      → (dist (to_field (get_or words i 0)) ≢ far)
      × (dist (to_field (get_or words i 0)) ≤ℤ (dist (from_field (get_or words i 0)) +ℤ weight_of (get_or words i 0)))
  -- The parent of every other reached yard is the number of a lane to it, from a reached yard, that makes just its total.
  pub made : (v : ℕ) → v < n → dist v ≢ far → v ≢ source
      → (i : ℕ) × (i < m) × (parent v ≡ pos i) × (to_field (get_or words i 0) ≡ v) × (dist (from_field (get_or words i 0)) ≢ far)
      × (dist (from_field (get_or words i 0)) +ℤ weight_of (get_or words i 0) ≡ dist v)
  -- Followed back, the parents arrive at the source.
  pub home : (v : ℕ) → v < n → dist v ≢ far → (k : ℕ) × (steps_back (λ u. lane_before words u (parent u)) v k ≡ source)

-- Method 2, of table words: the parent is the yard before.
pub record TableAddsUp (words : List ℕ) (n source : ℕ) (dist parent : ℕ → ℤ) : Type 0 where
  pub source_zero : dist source ≡ pos 0
  pub source_mark : parent source ≡ negsuc 0
  pub unreached_mark : (v : ℕ) → v < n → dist v ≡ far → parent v ≡ negsuc 0
  pub no_less : (u v : ℕ) → u < n → v < n → weight_of (get_or words (u * n + v) 0) ≢ negsuc 0 → dist u ≢ far
      → (dist v ≢ far) × (dist v ≤ℤ (dist u +ℤ weight_of (get_or words (u * n + v) 0)))
  pub made : (v : ℕ) → v < n → dist v ≢ far → v ≢ source
      → (u : ℕ) × (u < n) × (parent v ≡ pos u) × (weight_of (get_or words (u * n + v) 0) ≢ negsuc 0) × (dist u ≢ far)
      × (dist u +ℤ weight_of (get_or words (u * n + v) 0) ≡ dist v)
  pub home : (v : ℕ) → v < n → dist v ≢ far → (k : ℕ) × (steps_back (λ u. yard_before u (parent u)) v k ≡ source)

-- The route of method 5 to z. Lanes, the last first, that lead from the source to z: each ends where the one before it in the list begins;
-- and what they cost together.
abbrev pub LastFirst : (words : List ℕ) (source z : ℕ) → (lanes : List ℕ) → Type 0
LastFirst ws source z [] = source ≡ z
LastFirst ws source z (i ∷ is) = (to_field (get_or ws i 0) ≡ z) × LastFirst ws source (from_field (get_or ws i 0)) is

abbrev pub prices_of : (words lanes : List ℕ) → ℤ
prices_of ws [] = pos 0
prices_of ws (i ∷ is) = prices_of ws is +ℤ weight_of (get_or ws i 0)

pub record RouteAddsUp (words : List ℕ) (n m source z : ℕ) (dist parent route : ℕ → ℤ) : Type 0 where
  -- "the parent marks followed from the destination back to the source"
  pub followed : (k : ℕ) → k < n - 1 → route k ≡ parent (steps_back (λ u. lane_before words u (parent u)) z k)
  -- "an unreached destination, or the source itself, gives padding only"
  pub padding : (z ≡ source) ⊎ (dist z ≡ far) → (k : ℕ) → k < n - 1 → route k ≡ negsuc 0
  -- "For a reached destination the lanes shown, last first, form a walk from the source to it whose total is the distance", "padded with -1".
  pub shown : dist z ≢ far
      → (lanes : List ℕ) × (length lanes ≤ n - 1) × ((k : ℕ) → k < length lanes → (get_or lanes k 0 < m) × (route k ≡ pos (get_or lanes k 0)))
      × ((k : ℕ) → length lanes ≤ k → k < n - 1 → route k ≡ negsuc 0) × LastFirst words source z lanes × (prices_of words lanes ≡ dist z)

-- By method, of what a run gives.
pub record AddsUp (request : List ℕ) (lent : Lent) : Type 0 where
  pub lanes : OneOf (1 ∷ 3 ∷ 5 ∷ []) (header_in request).method
      → LanesAddUp (words_in request) (header_in request).vertices (header_in request).edges (header_in request).source
      (result_of request lent distances) (result_of request lent parents)
  pub table : (header_in request).method ≡ 2
      → TableAddsUp (words_in request) (header_in request).vertices (header_in request).source
      (result_of request lent distances) (result_of request lent parents)
  pub route : (header_in request).method ≡ 5
      → RouteAddsUp (words_in request) (header_in request).vertices (header_in request).edges (header_in request).source
      (destination_in (header_in request) (words_in request))
      (result_of request lent distances) (result_of request lent parents) (result_of request lent route)
