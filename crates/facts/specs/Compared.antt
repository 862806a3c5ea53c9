-- Document 02, ask 9: one network in every method, and again with its fees moved, about the outcomes of runs. Rests on demands, and on the requests
-- that comparisons' facts say agree.
use Rattle.std.specs.Prelude.{◌≡◌, List, [], ◌∷◌, ℕ, ℤ, pos}
use Rattle.plans.specs.Limits.{far}
use Rattle.plans.specs.Plan.{distances}
use Rattle.demands.specs.Run.{outcome}
use Rattle.comparisons.specs.Facts.{lanes, lane, routed, table}
use Rattle.facts.specs.Corners.{zeros}

-- The distances of a request that is lent so many places for them.
abbrev pub given : (places : ℕ) (request : List ℕ) → List ℤ
given places request = (outcome request (zeros 50 200 places)).results distances

-- 2 yards: the least price from 0 to 1 is 7, and nothing leads from 1 to 0.
pub record Compared : Type 0 where
  -- Of lanes at 9 and at 7, and one from 1 to itself.
  pub method_1 : given 2 lanes ≡ pos 0 ∷ pos 7 ∷ []
  -- In a table.
  pub method_2 : given 2 (table 7) ≡ pos 0 ∷ pos 7 ∷ []
  -- Of one lane, sorted.
  pub method_3 : given 2 (lane 0x3000020000100000 7) ≡ pos 0 ∷ pos 7 ∷ []
  -- By rows.
  pub method_4 : given 4 (lane 0x4000020000100000 7) ≡ pos 0 ∷ pos 7 ∷ far ∷ pos 0 ∷ []
  -- With yard 1 as the destination.
  pub method_5 : given 2 (routed 7 1) ≡ pos 0 ∷ pos 7 ∷ []
  -- With 3 for yard 0 and -4 for yard 1 the price from 0 to 1 is 14.
  pub moved_1 : given 2 (lane 0x1000020000100000 14) ≡ pos 0 ∷ pos 14 ∷ []
  pub moved_2 : given 2 (table 14) ≡ pos 0 ∷ pos 14 ∷ []
  pub moved_3 : given 2 (lane 0x3000020000100000 14) ≡ pos 0 ∷ pos 14 ∷ []
  pub moved_4 : given 4 (lane 0x4000020000100000 14) ≡ pos 0 ∷ pos 14 ∷ far ∷ pos 0 ∷ []
  pub moved_5 : given 2 (routed 14 0) ≡ pos 0 ∷ pos 14 ∷ []
