-- Document 01, "Requests at the edges": the eleven rows, in its order, about the outcomes of runs and the words of plans.
-- Rests on demands.
use Rattle.std.specs.Prelude.{◌≡◌, [], ◌∷◌, ◌++◌, ℕ, ◌-◌, ◌^◌, pos, negsuc, length, replicate}
use Rattle.std.proofs.Math.Option.{none, some}
use Rattle.answers.specs.Told.{Told}
use Rattle.machine.specs.Word.{packed}
use Rattle.machine.specs.Log.{carried}
use Rattle.plans.specs.Limits.{far}
use Rattle.plans.specs.Plan.{header_of, plan_of, distances, parents}
use Rattle.planner.specs.Facts.{smallest_plan}
use Rattle.demands.specs.Run.{Lent, Outcome, outcome}

-- Buffers lent with zeros: cells, log words, and places of each results buffer.
abbrev pub zeros : (cells log results : ℕ) → Lent
zeros cells log results = record { cells = replicate cells (pos 0); log = replicate log 0; results = λ k. replicate results (pos 0) }

-- A run told by its rounds, log length and verdict; a refusal by its number and place.
abbrev pub ran : (rounds size : ℕ) → Told
ran rounds size = record { number = 0; place = none; values = rounds ∷ size ∷ 0 ∷ [] }

-- Method 1, n = 1, an edge from 0 to 0 of the given 32 bits of weight, on 14 cells and 18 log words.
abbrev pub loop_of : (bits : ℕ) → Outcome
loop_of bits = outcome (0x1000010000100000 ∷ bits ∷ []) (zeros 14 18 1)

pub record Corners : Type 0 where
  -- 1. The whole plan; the log adds a zero word; 2 rounds.
  pub smallest : (plan_of (header_of 0x1000010000000000) ≡ smallest_plan)
      × ((outcome (0x1000010000000000 ∷ []) (zeros 11 8 1)).log ≡ smallest_plan ++ (0 ∷ []))
      × ((outcome (0x1000010000000000 ∷ []) (zeros 11 8 1)).answer ≡ ran 2 8)
  -- 2. The printed request: 31 rounds, distances 0 and -5, parents none and edge 0.
  pub printed : ((outcome (0x1000020000100000 ∷ 0x00010000FFFFFFFB ∷ []) (zeros 17 48 2)).answer ≡ ran 31 48)
      × ((outcome (0x1000020000100000 ∷ 0x00010000FFFFFFFB ∷ []) (zeros 17 48 2)).results distances ≡ pos 0 ∷ negsuc 4 ∷ [])
      × ((outcome (0x1000020000100000 ∷ 0x00010000FFFFFFFB ∷ []) (zeros 17 48 2)).results parents ≡ negsuc 0 ∷ pos 0 ∷ [])
  -- 3. A loop of weight -1 is 12; of weight 0 it runs. 18 rounds.
  pub loops : ((loop_of 0xFFFFFFFF).answer ≡ record { number = 12; place = none; values = 18 ∷ 18 ∷ 1 ∷ [] }) × ((loop_of 0).answer ≡ ran 18 18)
  -- 4. Two edges from 0 to 1 at 4 and 4: distance 4, parent 0, 44 rounds.
  pub ties : ((outcome (0x1000020000200000 ∷ 0x0001000000000004 ∷ 0x0001000000000004 ∷ []) (zeros 20 85 2)).answer ≡ ran 44 85)
      × ((outcome (0x1000020000200000 ∷ 0x0001000000000004 ∷ 0x0001000000000004 ∷ []) (zeros 20 85 2)).results distances ≡ pos 0 ∷ pos 4 ∷ [])
      × ((outcome (0x1000020000200000 ∷ 0x0001000000000004 ∷ 0x0001000000000004 ∷ []) (zeros 20 85 2)).results parents ≡ negsuc 0 ∷ pos 0 ∷ [])
  -- 5. A negative cycle that the source does not reach: verdict 0, vertices 1 and 2 unreached, 73 rounds.
  pub elsewhere :
      ((outcome (0x1000030000200000 ∷ 0x01020000FFFFFFFF ∷ 0x02010000FFFFFFFF ∷ []) (zeros 23 174 3)).answer ≡ ran 73 174)
      × ((outcome (0x1000030000200000 ∷ 0x01020000FFFFFFFF ∷ 0x02010000FFFFFFFF ∷ []) (zeros 23 174 3)).results distances
      ≡ pos 0 ∷ far ∷ far ∷ [])
  -- 6. Method 2, n = 2, no edges: distances 0 and FAR, 63 rounds.
  pub no_edges :
      ((outcome (0x2000020000000000 ∷ 0xFFFFFFFF ∷ 0xFFFFFFFF ∷ 0xFFFFFFFF ∷ 0xFFFFFFFF ∷ []) (zeros 20 67 2)).results distances
      ≡ pos 0 ∷ pos 549755813887 ∷ [])
      × ((outcome (0x2000020000000000 ∷ 0xFFFFFFFF ∷ 0xFFFFFFFF ∷ 0xFFFFFFFF ∷ 0xFFFFFFFF ∷ []) (zeros 20 67 2)).answer ≡ ran 63 67)
  -- 7. Method 2, n = 1: 21 words, 23 rounds.
  pub one_vertex : (length (plan_of (header_of 0x2000010000000000)) ≡ 21)
      × ((outcome (0x2000010000000000 ∷ 0 ∷ []) (zeros 12 21 1)).answer ≡ ran 23 21)
  -- 8. Row 3's edge at 100,000,000 runs, 18 rounds; at 100,000,001 it is 11, place 0.
  pub weights : ((loop_of 100000000).answer ≡ ran 18 18)
      × ((loop_of 100000001).answer ≡ record { number = 11; place = some 0; values = [] })
  -- 9. n = 33 is 2; m = 129 is 3.
  pub limits : ((outcome (0x1000210000000000 ∷ []) (zeros 0 0 0)).answer.number ≡ 2)
      × ((outcome (0x1000010008100000 ∷ []) (zeros 0 0 0)).answer.number ≡ 3)
  -- 10. SET with a = 524,288 and b = 0.
  pub least_constant : carried (packed 0 0 524288 0) (pos 0 ∷ []) ≡ negsuc 549755813887 ∷ []
  -- 11. ADD of 2^63 - 1 and 1.
  pub wrapped : carried (packed 2 2 0 1) (pos (2 ^ 63 - 1) ∷ pos 1 ∷ pos 0 ∷ []) ≡ pos (2 ^ 63 - 1) ∷ pos 1 ∷ negsuc (2 ^ 63 - 1) ∷ []
