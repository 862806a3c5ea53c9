-- The rules as one table of facts: what the definitions of each crate give for literal words, and each of the sixteen numbers from a
-- request or a foreign plan to its answer. Rests on demands, and on the tables of the crates below.
use Rattle.std.specs.Prelude.{◌≡◌, List, [], ◌∷◌, ◌++◌, ℕ, pos, negsuc, replicate}
use Rattle.std.proofs.Math.Option.{none}
use Rattle.answers.specs.Told.{Told}
use Rattle.answers.specs.Facts as Answers
use Rattle.answers.specs.Facts.{by_number, at_place}
use Rattle.machine.specs.Facts as Machine
use Rattle.plans.specs.Plan.{header_of, distances, parents, by_kind}
use Rattle.plans.specs.Facts as Plans
use Rattle.graph.specs.Facts as Graph
use Rattle.headers.specs.Facts as Headers
use Rattle.planner.specs.Facts as Planner
use Rattle.planner.specs.Facts.{smallest_plan}
use Rattle.limits.specs.Facts as Limits
use Rattle.intake.specs.Facts as Intake
use Rattle.runner.specs.Facts as Runner
use Rattle.runner.specs.Runner.{plan_outcome}
use Rattle.demands.specs.Run.{Lent, outcome}
use Rattle.demands.specs.Network.{sources_of}
use Rattle.demands.specs.Sums.{sum_bound}
use Rattle.saved.specs.Saved.{conversion_outcome}
use Rattle.saved.specs.Facts as Saved
use Rattle.comparisons.specs.Facts as Comparisons

-- Buffers lent with nines: cells, log words, distances, parents, and two places for a route.
abbrev pub nines : (cells log distances parents : ℕ) → Lent
nines cells log ds ps =
    record {
      cells = replicate cells (pos 9);
      log = replicate log 9;
      results = by_kind (replicate ds (pos 9)) (replicate ps (pos 9)) (pos 9 ∷ pos 9 ∷ []);
    }

-- What a request is answered with such buffers.
abbrev pub request_answered : (request : List ℕ) (cells log distances parents : ℕ) → Told
request_answered request cells log ds ps = (outcome request (nines cells log ds ps)).answer

pub record Rules : Type 0 where
  -- "Who caused it": numbers and places
  pub answers : Answers.Facts
  -- "Yards, lanes and totals"
  pub graph : Graph.Facts
  -- "Cell words"
  pub machine : Machine.Facts
  -- "Plan of method 1", "Plan of method 2", those of methods 3, 4 and 5, and the limits of "Request words"
  pub plans : Plans.Facts
  -- "Who caused it": headers, writing a plan
  pub headers : Headers.Facts
  pub planner : Planner.Facts
  -- "Who caused it": requests
  pub limits : Limits.Facts
  -- Intake: where a cell's first number comes from
  pub intake : Intake.Facts
  -- "Who caused it": foreign plans
  pub runner : Runner.Facts
  -- "A lent buffer of saved distances is converted" (document 02, ask 7)
  pub saved : Saved.Facts
  -- Requests compared: in hundredths (ask 7), with fees moved, and by their least prices (ask 9)
  pub comparisons : Comparisons.Facts
  -- The printed request's distances, 0 and -5, converted are those of its run with the lane at -500.
  pub finer : (conversion_outcome (pos 0 ∷ negsuc 4 ∷ [])).saved
      ≡ (outcome (0x1000020000100000 ∷ 0x00010000FFFFFE0C ∷ []) (nines 17 48 2 2)).results distances
  -- "1: header missing, or method not 1 or 2", and "refusal 1 admits" methods 3, 4 and 5 (document 02, asks 3, 8 and 5).
  pub one : (request_answered [] 17 48 2 2 ≡ by_number 1)
      × (request_answered (0x0000020000100000 ∷ 0 ∷ []) 17 48 2 2 ≡ by_number 1)
      × (request_answered (0x6000020000100000 ∷ 0 ∷ 0 ∷ []) 21 63 2 2 ≡ by_number 1)
      × (request_answered (0x4000020000100000 ∷ 0 ∷ []) 19 104 4 0 ≡ record { number = 0; place = none; values = 37 ∷ 104 ∷ 0 ∷ [] })
      × (request_answered (0x5000020000100000 ∷ 0 ∷ 0 ∷ []) 21 63 2 2 ≡ record { number = 0; place = none; values = 31 ∷ 63 ∷ 0 ∷ [] })
  -- "2: n is 0 or over 32."
  pub two : request_answered (0x1000000000100000 ∷ 0 ∷ []) 17 48 2 2 ≡ by_number 2
  -- "3: m over 128, or not 0 in method 2."
  pub three : request_answered (0x2000010000100000 ∷ 0 ∷ []) 17 48 2 2 ≡ by_number 3
  -- "4: source not below n"; in method 4 "the source field must be 0, else refusal 4" (document 02, ask 8).
  pub four : (request_answered (0x1000020000100002 ∷ 0 ∷ []) 17 48 2 2 ≡ by_number 4)
      × (request_answered (0x4000020000100001 ∷ 0 ∷ []) 19 104 4 0 ≡ by_number 4)
  -- "5: words after the header are not m, or not n² in method 2"; in method 5 "5 expects m+1 words" (document 02, ask 5).
  pub five : (request_answered (0x1000020000100000 ∷ []) 17 48 2 2 ≡ by_number 5) × (request_answered (0x5000020000100000 ∷ 0 ∷ []) 21 63 2 2 ≡ by_number 5)
  -- "6: too few cells."
  pub six : request_answered (0x1000020000100000 ∷ 0 ∷ []) 16 48 2 2 ≡ by_number 6
  -- "7: log .. too short."
  pub seven : request_answered (0x1000020000100000 ∷ 0 ∷ []) 17 47 2 2 ≡ by_number 7
  -- "8: a results buffer shorter than n"; "8 covers the route buffer of n−1 places", here of 4 yards; in method 4 "8 needs n² places".
  pub eight : (request_answered (0x1000020000100000 ∷ 0 ∷ []) 17 48 1 2 ≡ by_number 8)
      × (request_answered (0x1000020000100000 ∷ 0 ∷ []) 17 48 2 1 ≡ by_number 8)
      × (request_answered (0x5000040000000000 ∷ 0 ∷ []) 28 61 4 4 ≡ by_number 8)
      × (request_answered (0x4000020000100000 ∷ 0 ∷ []) 19 104 3 9 ≡ by_number 8)
  -- "9, with place": the SET at place 1 is fine, the COPY at place 2 has a b.
  pub nine : (plan_outcome (0x1000020000100000 ∷ 0 ∷ 0x1000000000000001 ∷ []) (pos 9 ∷ pos 9 ∷ []) (9 ∷ 9 ∷ 9 ∷ [])).answer ≡ at_place 9 2
  -- "10 keeps the spare bits only" (document 02, ask 1).
  pub ten : (request_answered (0x1000020000100000 ∷ 0x0000000100000000 ∷ []) 17 48 2 2 ≡ at_place 10 0)
      × (request_answered (0x2000010000000000 ∷ 0x0000000100000000 ∷ []) 12 21 1 1 ≡ at_place 10 0)
  -- "11, with place: price outside its range."
  pub eleven : request_answered (0x1000020000100000 ∷ 0x00000000FA0A1EFF ∷ []) 17 48 2 2 ≡ at_place 11 0
  -- "12: loss circle", a lane from 0 to 0 at -1. "A request's run, 12 included, answers its rounds, log length and verdict"; without results.
  pub twelve : (request_answered (0x1000010000100000 ∷ 0x00000000FFFFFFFF ∷ []) 14 18 1 1 ≡ record { number = 12; place = none; values = 18 ∷ 18 ∷ 1 ∷ [] })
      × ((outcome (0x1000010000100000 ∷ 0x00000000FFFFFFFF ∷ []) (nines 14 18 1 1)).results distances ≡ pos 9 ∷ [])
      × ((outcome (0x1000010000100000 ∷ 0x00000000FFFFFFFF ∷ []) (nines 14 18 1 1)).results parents ≡ pos 9 ∷ [])
  -- "13 when the from-yard is not below n" (document 02, ask 1): 2 of 2 yards, in the first lane and in the second.
  pub thirteen : (request_answered (0x1000020000100000 ∷ 0x0200000000000000 ∷ []) 17 48 2 2 ≡ at_place 13 0)
      × (request_answered (0x1000020000200000 ∷ 0 ∷ 0x0200000000000000 ∷ []) 20 85 2 2 ≡ at_place 13 1)
  -- "14 when the to-yard is not below n".
  pub fourteen : (request_answered (0x1000020000100000 ∷ 0x0002000000000000 ∷ []) 17 48 2 2 ≡ at_place 14 0)
      × (request_answered (0x1000020000200000 ∷ 0 ∷ 0x0002000000000000 ∷ []) 20 85 2 2 ≡ at_place 14 1)
  -- "15 when a lane's to-yard is below the one before it, with the place of that lane, tested after its price" (document 02, ask 3): lanes to 1
  -- and to 0 of 2 yards, and the second with a price of 100,000,001.
  pub fifteen : (request_answered (0x3000020000200000 ∷ 0x0001000000000000 ∷ 0x0000000000000000 ∷ []) 36 86 2 2 ≡ at_place 15 1)
      × (request_answered (0x3000020000200000 ∷ 0x0001000000000000 ∷ 0x0000000005F5E101 ∷ []) 36 86 2 2 ≡ at_place 11 1)
  -- "16, without place, when the destination is not below n, after all lanes": 2 of 2 yards; and with a lane from there.
  pub sixteen : (request_answered (0x5000020000100000 ∷ 0 ∷ 2 ∷ []) 21 63 2 2 ≡ by_number 16)
      × (request_answered (0x5000020000100000 ∷ 0x0200000000000000 ∷ 2 ∷ []) 21 63 2 2 ≡ at_place 13 0)
  -- "the order is spare bits, from, to, price": both yards bad, spare bits and from-yard, to-yard and price, all four.
  pub fault_order : (request_answered (0x1000020000100000 ∷ 0x0202000000000000 ∷ []) 17 48 2 2 ≡ at_place 13 0)
      × (request_answered (0x1000020000100000 ∷ 0x0200000100000000 ∷ []) 17 48 2 2 ≡ at_place 10 0)
      × (request_answered (0x1000020000100000 ∷ 0x0002000005F5E101 ∷ []) 17 48 2 2 ≡ at_place 14 0)
      × (request_answered (0x1000020000100000 ∷ 0x0202000105F5E101 ∷ []) 17 48 2 2 ≡ at_place 10 0)
  -- "any other refusal only its number and [..] its place, and changes no lent buffer"
  pub refuses : outcome (0x1000010000100000 ∷ 0x00000000FA0A1EFF ∷ []) (nines 14 18 1 1)
      ≡ record {
        answer = at_place 11 0;
        cells = replicate 14 (pos 9);
        log = replicate 18 9;
        results = by_kind (pos 9 ∷ []) (pos 9 ∷ []) (pos 9 ∷ pos 9 ∷ []);
      }
  -- "Cells, log and results beyond the needed part stay untouched": method 1, n = 1, m = 0, one place more of each.
  pub untouched : outcome (0x1000010000000000 ∷ []) (nines 12 9 2 2)
      ≡ record {
        answer = record { number = 0; place = none; values = 2 ∷ 8 ∷ 0 ∷ [] };
        cells = (pos 0 ∷ negsuc 0 ∷ pos 0 ∷ pos 549755813887 ∷ []) ++ replicate 7 (pos 0) ++ (pos 9 ∷ []);
        log = smallest_plan ++ (0 ∷ 9 ∷ []);
        results = by_kind (pos 0 ∷ pos 9 ∷ []) (negsuc 0 ∷ pos 9 ∷ []) (pos 9 ∷ pos 9 ∷ []);
      }
  -- The same in method 4; the parents and the route are not looked at. HIGH is 2^20 × FAR, 2^59 - 2^20.
  pub untouched4 : outcome (0x4000010000000000 ∷ []) (nines 11 41 2 1)
      ≡ record {
        answer = record { number = 0; place = none; values = 16 ∷ 40 ∷ 0 ∷ [] };
        cells =
            (pos 0 ∷ pos 0 ∷ pos 0 ∷ pos 0 ∷ pos 549755813887 ∷ pos 576460752302374912 ∷ [])
            ++ (pos 0 ∷ pos 0 ∷ pos 0 ∷ pos 0 ∷ pos 9 ∷ []);
        log =
            (0x4000010000000000 ∷ 0x0000030000000000 ∷ 0x0000047FFFFFFFFF ∷ 0x0000057FFFFFFFFF ∷ [])
            ++ replicate 20 0x2000050000500005
            ++ (0x0000060000000000 ∷ 0x0000090000000000 ∷ 0x1000000000500000 ∷ 0x1000000000600000 ∷ [])
            ++ (0x1000010000000000 ∷ 0x1000020000000000 ∷ 0x2000070000100002 ∷ 0x3000080000700000 ∷ 0x6000000000800007 ∷ [])
            ++ (0x3000080000000006 ∷ 0x2000090000900008 ∷ 0x5000090000900009 ∷ 0x3000080000400000 ∷ 0x6000000000800004 ∷ [])
            ++ (0x7000000000900000 ∷ 0 ∷ 9 ∷ []);
        results = by_kind (pos 0 ∷ pos 9 ∷ []) (pos 9 ∷ []) (pos 9 ∷ pos 9 ∷ []);
      }
  -- The same in method 5, with a route of n - 1 places.
  pub untouched5 : outcome (0x5000020000000000 ∷ 1 ∷ []) (nines 19 22 3 3)
      ≡ record {
        answer = record { number = 0; place = none; values = 9 ∷ 21 ∷ 0 ∷ [] };
        cells =
            (pos 0 ∷ pos 549755813887 ∷ negsuc 0 ∷ negsuc 0 ∷ pos 0 ∷ pos 1 ∷ pos 549755813887 ∷ pos 1 ∷ pos 1 ∷ [])
            ++ (pos 0 ∷ pos 0 ∷ pos 1 ∷ pos 0 ∷ pos 0 ∷ pos 1 ∷ pos 0 ∷ pos 1 ∷ negsuc 0 ∷ pos 9 ∷ []);
        log =
            (0x5000020000000000 ∷ 0x0000040000000000 ∷ 0x0000000000000000 ∷ 0x000002FFFFFFFFFF ∷ 0x0000050000000001 ∷ 0x0000017FFFFFFFFF ∷ [])
            ++ (0x000003FFFFFFFFFF ∷ 0x0000067FFFFFFFFF ∷ 0x00000D0000000000 ∷ 0x10000F0000400000 ∷ 0x1000100000500000 ∷ [])
            ++ (0x1000070000E00000 ∷ 0x1000080000700000 ∷ 0x40000B0000800004 ∷ 0x6000110000B00002 ∷ 0x6000070000B0000F ∷ [])
            ++ (0x40000B0000800005 ∷ 0x6000110000B00003 ∷ 0x6000070000B00010 ∷ 0x7000000000D00000 ∷ 0 ∷ 9 ∷ []);
        results = by_kind (pos 0 ∷ pos 549755813887 ∷ pos 9 ∷ []) (negsuc 0 ∷ negsuc 0 ∷ pos 9 ∷ []) (negsuc 0 ∷ pos 9 ∷ []);
      }
  -- "must be shown below it": of a reached yard's total and a price, in every method but 4, a sum of FAR is not, one less is; from an unreached yard,
  -- or in method 2 where there is no lane, nothing is said. In method 4: of two entries of -10^8 × 2^31, and of two that are HIGH; one past each end.
  pub sums : (¬ sum_bound (header_of 0x1000010000000000) (pos 549755813786) (pos 101))
      × (¬ sum_bound (header_of 0x2000010000000000) (pos 549755813786) (pos 101))
      × (¬ sum_bound (header_of 0x3000010000000000) (pos 549755813786) (pos 101))
      × (¬ sum_bound (header_of 0x5000010000000000) (pos 549755813786) (pos 101))
      × sum_bound (header_of 0x1000010000000000) (pos 549755813786) (pos 100)
      × sum_bound (header_of 0x1000010000000000) (pos 549755813887) (pos 100)
      × sum_bound (header_of 0x2000010000000000) (pos 100) (pos 549755813887)
      × sum_bound (header_of 0x4000010000000000) (negsuc 214748364799999999) (negsuc 214748364799999999)
      × sum_bound (header_of 0x4000010000000000) (pos 576460752302374912) (pos 576460752302374912)
      × (¬ sum_bound (header_of 0x4000010000000000) (negsuc 214748364799999999) (negsuc 214748364800000000))
      × (¬ sum_bound (header_of 0x4000010000000000) (pos 576460752302374912) (pos 576460752302374913))
  -- The sources that distances are from: the header's, in method 4 every yard.
  pub sources : (sources_of (header_of 0x1000200008000007) ≡ 7 ∷ [])
      × (sources_of (header_of 0x2000200000000013) ≡ 19 ∷ [])
      × (sources_of (header_of 0x3000200008000005) ≡ 5 ∷ [])
      × (sources_of (header_of 0x4000030000000000) ≡ 0 ∷ 1 ∷ 2 ∷ [])
      × (sources_of (header_of 0x5000200008000006) ≡ 6 ∷ [])
