-- Document 02, ask 5: runs of method 5, about their outcomes. After the two smallest, each tells a wrong route from the right one. Rests on demands.
use Rattle.std.specs.Prelude.{◌≡◌, List, [], ◌∷◌, ℕ, ℤ, pos, negsuc}
use Rattle.std.proofs.Math.Option.{none}
use Rattle.plans.specs.Plan.{route}
use Rattle.demands.specs.Run.{Outcome, outcome}
use Rattle.facts.specs.Corners.{zeros, ran}

-- A run that shows this route, in a buffer of n zeros: the last one stays.
pub record Shows (o : Outcome) (rounds size : ℕ) (rs : List ℤ) : Type 0 where
  pub answers : o.answer ≡ ran rounds size
  pub route : o.results route ≡ rs

-- n = 3, lanes 1 to 2 at -3 and 0 to 1 at 5; n = 2, lanes there and back at this price: with a destination.
abbrev pub row : (destination : ℕ) → Outcome
row z = outcome (0x5000030000200000 ∷ 0x01020000FFFFFFFD ∷ 0x0001000000000005 ∷ z ∷ []) (zeros 29 212 3)

abbrev pub circle : (back : ℕ) → Outcome
circle w = outcome (0x5000020000200000 ∷ 0x0001000000000000 ∷ w ∷ 1 ∷ []) (zeros 24 105 2)

pub record Routed : Type 0 where
  -- n = 1, no lane: a route of no places.
  pub smallest : Shows (outcome (0x5000010000000000 ∷ 0 ∷ []) (zeros 13 10 1)) 2 10 (pos 0 ∷ [])
  -- The printed request's lane, to 1.
  pub printed : Shows (outcome (0x5000020000100000 ∷ 0x00010000FFFFFFFB ∷ 1 ∷ []) (zeros 21 63 2)) 31 63 (pos 0 ∷ pos 0 ∷ [])
  -- "the lanes shown, last first": to 2 over lane 1, then lane 0. And "padded with -1": to 1 over lane 1 alone.
  pub two_edges : Shows (row 2) 75 212 (pos 0 ∷ pos 1 ∷ pos 0 ∷ [])
  pub one_edge : Shows (row 1) 75 212 (pos 1 ∷ negsuc 0 ∷ pos 0 ∷ [])
  -- "an unreached destination, or the source itself, gives padding only": to 0; and to 2 with a lane from 0 to 1 alone.
  pub source : Shows (row 0) 75 212 (negsuc 0 ∷ negsuc 0 ∷ pos 0 ∷ [])
  pub unreached : Shows (outcome (0x5000030000100000 ∷ 0x0001000000000005 ∷ 2 ∷ []) (zeros 26 125 3)) 50 125 (negsuc 0 ∷ negsuc 0 ∷ pos 0 ∷ [])
  -- "the parent marks followed": of lanes 0 to 1 at 4 and 4 the first is the parent.
  pub ties : Shows (outcome (0x5000020000200000 ∷ 0x0001000000000004 ∷ 0x0001000000000004 ∷ 1 ∷ []) (zeros 24 105 2)) 44 105 (pos 0 ∷ pos 0 ∷ [])
  -- Back at 0 the circle is no parent's; back at -1 it is 12, and there is no route.
  pub circles : Shows (circle 0x0100000000000000) 44 105 (pos 0 ∷ pos 0 ∷ [])
      × ((circle 0x01000000FFFFFFFF).answer ≡ record { number = 12; place = none; values = 44 ∷ 105 ∷ 1 ∷ [] })
      × ((circle 0x01000000FFFFFFFF).results route ≡ pos 0 ∷ pos 0 ∷ [])
  -- Method 1 leaves the buffer.
  pub others : (outcome (0x1000020000100000 ∷ 0x00010000FFFFFFFB ∷ []) (zeros 17 48 2)).results route ≡ pos 0 ∷ pos 0 ∷ []
