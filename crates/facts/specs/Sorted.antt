-- Document 02, ask 3: runs of method 3, about their outcomes. After the two smallest, each tells a wrong rule from the right one. Rests on demands.
use Rattle.std.specs.Prelude.{◌≡◌, List, [], ◌∷◌, ℕ, ℤ, pos, negsuc}
use Rattle.std.proofs.Math.Option.{none}
use Rattle.plans.specs.Limits.{far}
use Rattle.plans.specs.Plan.{distances, parents}
use Rattle.demands.specs.Run.{Outcome, outcome}
use Rattle.facts.specs.Corners.{zeros, ran}

-- A run that gives these distances and parents.
pub record Gives (o : Outcome) (rounds size : ℕ) (ds ps : List ℤ) : Type 0 where
  pub answers : o.answer ≡ ran rounds size
  pub dist : o.results distances ≡ ds
  pub parent : o.results parents ≡ ps

pub record Sorted : Type 0 where
  -- n = 1, no lane: the least request.
  pub smallest : Gives (outcome (0x3000010000000000 ∷ []) (zeros 15 12 1)) 9 12 (pos 0 ∷ []) (negsuc 0 ∷ [])
  -- The printed request's lane: 0 to 1 at -5.
  pub printed : Gives (outcome (0x3000020000100000 ∷ 0x00010000FFFFFFFB ∷ []) (zeros 28 55 2)) 45 55 (pos 0 ∷ negsuc 4 ∷ []) (negsuc 0 ∷ pos 0 ∷ [])
  -- "among equal offers the lowest lane number becomes parent": 0 to 1 at 4 and 4. And the least offer, though it comes later: at 9 and -5.
  pub ties : Gives (outcome (0x3000020000200000 ∷ 0x0001000000000004 ∷ 0x0001000000000004 ∷ []) (zeros 36 86 2)) 63 86 (pos 0 ∷ pos 4 ∷ []) (negsuc 0 ∷ pos 0 ∷ [])
  pub later : Gives (outcome (0x3000020000200000 ∷ 0x0001000000000009 ∷ 0x00010000FFFFFFFB ∷ []) (zeros 36 86 2)) 63 86 (pos 0 ∷ negsuc 4 ∷ []) (negsuc 0 ∷ pos 1 ∷ [])
  -- "the least offer in each segment": 0 to 1 at 1, 0 to 2 at 7.
  pub segments : Gives (outcome (0x3000030000200000 ∷ 0x0001000000000001 ∷ 0x0002000000000007 ∷ []) (zeros 45 154 3)) 94 154
      (pos 0 ∷ pos 1 ∷ pos 7 ∷ []) (negsuc 0 ∷ pos 0 ∷ pos 1 ∷ [])
  -- "Every pass reads the distances of the pass before", "and only on a strict gain": 0 to 1 at 5, 1 to 2 at 1, 0 to 2 at 6. Lane 1's offer of 6
  -- comes a pass after lane 2's; in method 1 it comes first, and lane 1 is the parent.
  pub synchronous : Gives (outcome (0x3000030000300000 ∷ 0x0001000000000005 ∷ 0x0102000000000001 ∷ 0x0002000000000006 ∷ []) (zeros 55 210 3)) 121 210
      (pos 0 ∷ pos 5 ∷ pos 6 ∷ []) (negsuc 0 ∷ pos 0 ∷ pos 2 ∷ [])
  pub in_place : (outcome (0x1000030000300000 ∷ 0x0001000000000005 ∷ 0x0102000000000001 ∷ 0x0002000000000006 ∷ []) (zeros 26 254 3)).results parents
      ≡ negsuc 0 ∷ pos 0 ∷ pos 1 ∷ []
  -- FAR plus a rebate is no offer: 2 to 1 and 1 to 2 at -1, a loss circle that the source does not reach.
  pub elsewhere : Gives (outcome (0x3000030000200000 ∷ 0x02010000FFFFFFFF ∷ 0x01020000FFFFFFFF ∷ []) (zeros 45 154 3)) 94 154
      (pos 0 ∷ far ∷ far ∷ []) (negsuc 0 ∷ negsuc 0 ∷ negsuc 0 ∷ [])
  -- "n-1 passes, then the check and the opened verdict": a lane from 0 to 0 at -1 is 12, at 0 it runs.
  pub loops : ((outcome (0x3000010000100000 ∷ 0x00000000FFFFFFFF ∷ []) (zeros 21 24 1)).answer ≡ record { number = 12; place = none; values = 25 ∷ 24 ∷ 1 ∷ [] })
      × ((outcome (0x3000010000100000 ∷ 0x0000000000000000 ∷ []) (zeros 21 24 1)).answer ≡ ran 25 24)
