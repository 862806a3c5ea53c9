-- Document 02, ask 8: runs of method 4, about their outcomes. After the two smallest, each tells a wrong table from the right one. Rests on demands.
use Rattle.std.specs.Prelude.{◌≡◌, List, [], ◌∷◌, ℕ, ℤ, pos, negsuc, replicate}
use Rattle.std.proofs.Math.Option.{none}
use Rattle.plans.specs.Limits.{far}
use Rattle.plans.specs.Plan.{distances, parents, by_kind}
use Rattle.demands.specs.Run.{Lent, Outcome, outcome}
use Rattle.facts.specs.Corners.{ran}

-- Cells, a log, places for distances, and two nines for parents, which no run of method 4 looks at.
abbrev pub lent : (cells log distances : ℕ) → Lent
lent cells log ds =
    record { cells = replicate cells (pos 0); log = replicate log 0; results = by_kind (replicate ds (pos 0)) (pos 9 ∷ pos 9 ∷ []) [] }

-- A run that gives this table, and leaves the parents.
pub record Tells (o : Outcome) (rounds size : ℕ) (ds : List ℤ) : Type 0 where
  pub answers : o.answer ≡ ran rounds size
  pub table : o.results distances ≡ ds
  pub parents : o.results parents ≡ pos 9 ∷ pos 9 ∷ []

-- n = 2, of two lanes; n = 3, of two: with buffers just long enough.
abbrev pub two : (first second : ℕ) → Outcome
two w u = outcome (0x4000020000200000 ∷ w ∷ u ∷ []) (lent 22 128 4)

abbrev pub three : (first second : ℕ) → Outcome
three w u = outcome (0x4000030000200000 ∷ w ∷ u ∷ []) (lent 30 256 9)

pub record Tabled : Type 0 where
  -- n = 1, no lane: the least request.
  pub smallest : Tells (outcome (0x4000010000000000 ∷ []) (lent 10 40 1)) 16 40 (pos 0 ∷ [])
  -- The printed request's lane, 0 to 1 at -5, "by rows": none leads back.
  pub printed : Tells (outcome (0x4000020000100000 ∷ 0x00010000FFFFFFFB ∷ []) (lent 19 104 4)) 37 104 (pos 0 ∷ negsuc 4 ∷ far ∷ pos 0 ∷ [])
  -- Of two lanes 0 to 1 the cheaper, whichever comes first: at 4 and 9, and at 9 and 4.
  pub parallel : Tells (two 0x0001000000000004 0x0001000000000009) 44 128 (pos 0 ∷ pos 4 ∷ far ∷ pos 0 ∷ [])
      × Tells (two 0x0001000000000009 0x0001000000000004) 44 128 (pos 0 ∷ pos 4 ∷ far ∷ pos 0 ∷ [])
  -- Over the last yard: 0 to 2 at 5, 2 to 1 at -3.
  pub over_the_last : Tells (three 0x0002000000000005 0x02010000FFFFFFFD) 51 256
      (pos 0 ∷ pos 2 ∷ pos 5 ∷ far ∷ pos 0 ∷ far ∷ far ∷ negsuc 2 ∷ pos 0 ∷ [])
  -- No walk plus a rebate is no walk: 1 to 2 at -1 twice, and yard 0 alone.
  pub apart : Tells (three 0x01020000FFFFFFFF 0x01020000FFFFFFFF) 51 256
      (pos 0 ∷ far ∷ far ∷ far ∷ pos 0 ∷ negsuc 0 ∷ far ∷ far ∷ pos 0 ∷ [])
  -- "a loss circle anywhere counts, reached from yard 0 or not": 1 to 2 and 2 to 1 at -1 is 12, and there is no table; at 1 and -1 it runs.
  pub circles : ((three 0x01020000FFFFFFFF 0x02010000FFFFFFFF).answer ≡ record { number = 12; place = none; values = 51 ∷ 256 ∷ 1 ∷ [] })
      × ((three 0x01020000FFFFFFFF 0x02010000FFFFFFFF).results distances ≡ replicate 9 (pos 0))
      × Tells (three 0x0102000000000001 0x02010000FFFFFFFF) 51 256
      (pos 0 ∷ far ∷ far ∷ far ∷ pos 0 ∷ pos 1 ∷ far ∷ negsuc 0 ∷ pos 0 ∷ [])
  -- A lane from 0 to 0: at -1 it is 12; at 0 and at 7 it costs nothing not to take it.
  pub loops : ((outcome (0x4000010000100000 ∷ 0x00000000FFFFFFFF ∷ []) (lent 13 49 1)).answer ≡ record { number = 12; place = none; values = 30 ∷ 49 ∷ 1 ∷ [] })
      × Tells (outcome (0x4000010000100000 ∷ 0x0000000000000000 ∷ []) (lent 13 49 1)) 30 49 (pos 0 ∷ [])
      × Tells (outcome (0x4000010000100000 ∷ 0x0000000000000007 ∷ []) (lent 13 49 1)) 30 49 (pos 0 ∷ [])
