-- The eight numbers that each of the five calls answers with (docs/CALLING.md, "The answer"), as facts about literal requests, plans, headers and
-- saved words. Rests on the definitions alone.
use Rattle.std.specs.Prelude.{◌≡◌, List, [], ◌∷◌, ℕ, ℤ, pos, negsuc, length, replicate}
use Rattle.plans.specs.Plan.{by_kind}
use Rattle.planner.specs.Written.{plan_refusal, plan_words, answer_of}
use Rattle.limits.specs.Sizes.{sizes_told}
use Rattle.runner.specs.Runner.{plan_outcome}
use Rattle.saved.specs.Saved.{conversion_outcome}
use Rattle.demands.specs.Run.{outcome}
use Rattle.exports.specs.Answers.{numbers_of}

-- What each call's contract says of its answer: of a request, with zeros lent, so many cells, words of the log, and places for results of each kind;
-- of a plan, on three cells and a log of six words; of a header and a buffer for its plan; of a header; of saved distances.
abbrev pub run_numbers : (request : List ℕ) (cells log results : ℕ) → List ℕ
run_numbers request cells log results =
    let buffer = replicate results (pos 0) in
    numbers_of (outcome request (record { cells = replicate cells (pos 0); log = replicate log 0; results = by_kind buffer buffer buffer })).answer

abbrev pub plan_numbers : (plan : List ℕ) → List ℕ
plan_numbers plan = numbers_of (plan_outcome plan (pos 0 ∷ pos 0 ∷ pos 0 ∷ []) (replicate 6 0)).answer

abbrev pub written_numbers : (header buffer : List ℕ) → List ℕ
written_numbers header buffer = numbers_of (answer_of (plan_refusal header (length buffer)) (plan_words header))

abbrev pub sizes_numbers : (header : List ℕ) → List ℕ
sizes_numbers header = numbers_of (sizes_told header)

abbrev pub saved_numbers : (saved : List ℤ) → List ℕ
saved_numbers saved = numbers_of (conversion_outcome saved).answer

pub record Facts : Type 0 where
  -- "0: done", "rounds", "log length", "verdict": the printed request. "12: a loss circle, after a run": lanes 0 to 1 at 0 and back at -1.
  pub runs : (run_numbers (0x1000020000100000 ∷ 0x00010000FFFFFFFB ∷ []) 17 48 2 ≡ 0 ∷ 0 ∷ 0 ∷ 31 ∷ 48 ∷ 0 ∷ 0 ∷ 0 ∷ [])
      × (run_numbers (0x1000020000200000 ∷ 0x0001000000000000 ∷ 0x01000000FFFFFFFF ∷ []) 20 85 2 ≡ 12 ∷ 0 ∷ 0 ∷ 44 ∷ 85 ∷ 1 ∷ 0 ∷ 0 ∷ [])
  -- "has place", "place": 11 of the third lane; of the first, whose place is 0; and 8, without one. "With any number but 0 and 12 the last
  -- five are 0".
  pub run_refusals : (run_numbers (0x1000020000300000 ∷ 0 ∷ 0 ∷ 0x0000000005F5E101 ∷ []) 23 122 2 ≡ 11 ∷ 1 ∷ 2 ∷ 0 ∷ 0 ∷ 0 ∷ 0 ∷ 0 ∷ [])
      × (run_numbers (0x1000020000300000 ∷ 0x0000000005F5E101 ∷ 0 ∷ 0 ∷ []) 23 122 2 ≡ 11 ∷ 1 ∷ 0 ∷ 0 ∷ 0 ∷ 0 ∷ 0 ∷ 0 ∷ [])
      × (run_numbers (0x1000020000300000 ∷ 0 ∷ 0 ∷ 0 ∷ []) 23 122 1 ≡ 8 ∷ 0 ∷ 0 ∷ 0 ∷ 0 ∷ 0 ∷ 0 ∷ 0 ∷ [])
  -- A plan of SET, LESS and OPEN: rounds, and a log with the published cell. 9 at its last word; 7 of seven words.
  pub plans : (plan_numbers (0 ∷ 0x000001FFFFFFFFFF ∷ 0x3000000000100000 ∷ 0x7000000000100000 ∷ []) ≡ 0 ∷ 0 ∷ 0 ∷ 7 ∷ 5 ∷ 0 ∷ 0 ∷ 0 ∷ [])
      × (plan_numbers (0 ∷ 0x000001FFFFFFFFFF ∷ 0x3000000000100000 ∷ 0x8000000000000000 ∷ []) ≡ 9 ∷ 1 ∷ 3 ∷ 0 ∷ 0 ∷ 0 ∷ 0 ∷ 0 ∷ [])
      × (plan_numbers (0 ∷ 0 ∷ 0 ∷ 0 ∷ 0 ∷ 0 ∷ 0 ∷ []) ≡ 7 ∷ 0 ∷ 0 ∷ 0 ∷ 0 ∷ 0 ∷ 0 ∷ 0 ∷ [])
  -- "of `vukstaja_write_plan` the plan's length": in a longer buffer; one word short of it; and no header word.
  pub written : (written_numbers (0x1000020000100000 ∷ []) (replicate 50 0) ≡ 0 ∷ 0 ∷ 0 ∷ 47 ∷ 0 ∷ 0 ∷ 0 ∷ 0 ∷ [])
      × (written_numbers (0x1000020000100000 ∷ []) (replicate 46 0) ≡ 7 ∷ 0 ∷ 0 ∷ 0 ∷ 0 ∷ 0 ∷ 0 ∷ 0 ∷ [])
      × (written_numbers [] (replicate 50 0) ≡ 1 ∷ 0 ∷ 0 ∷ 0 ∷ 0 ∷ 0 ∷ 0 ∷ 0 ∷ [])
  -- "of `vukstaja_sizes` the cells", "the words of the log", "the places of distances", "places of parents", "n − 1 in method 5": n = 3, m = 2
  -- in method 5, and in method 4, with its n² distances and no parents; 4.
  pub sizes : (sizes_numbers (0x5000030000200000 ∷ []) ≡ 0 ∷ 0 ∷ 0 ∷ 29 ∷ 212 ∷ 3 ∷ 3 ∷ 2 ∷ [])
      × (sizes_numbers (0x4000030000200000 ∷ []) ≡ 0 ∷ 0 ∷ 0 ∷ 30 ∷ 256 ∷ 9 ∷ 0 ∷ 0 ∷ [])
      × (sizes_numbers (0x5000030000200003 ∷ []) ≡ 4 ∷ 0 ∷ 0 ∷ 0 ∷ 0 ∷ 0 ∷ 0 ∷ 0 ∷ [])
  -- A conversion that is made tells nothing else; 11 of the third word.
  pub conversions : (saved_numbers (pos 5 ∷ pos 274877906944 ∷ negsuc 30999999 ∷ []) ≡ 0 ∷ 0 ∷ 0 ∷ 0 ∷ 0 ∷ 0 ∷ 0 ∷ 0 ∷ [])
      × (saved_numbers (pos 5 ∷ pos 274877906944 ∷ pos 31000001 ∷ []) ≡ 11 ∷ 1 ∷ 2 ∷ 0 ∷ 0 ∷ 0 ∷ 0 ∷ 0 ∷ [])
