-- Document 01, the sender of a foreign plan, as facts about literal plans: what the runner refuses and where, in which order, and what it
-- answers and leaves. Rests on the definitions alone.
use Rattle.std.specs.Prelude.{◌≡◌, true, false, List, [], ◌∷◌, ℕ, pos, negsuc}
use Rattle.std.proofs.Math.Option.{none}
use Rattle.answers.specs.Told.{Told}
use Rattle.answers.specs.Facts.{by_number, at_place}
use Rattle.runner.specs.Runner.{bad_at, plan_outcome}

-- A run told by its rounds and log length.
abbrev pub ran_plan : (rounds size : ℕ) → Told
ran_plan rounds size = record { number = 0; place = none; values = rounds ∷ size ∷ [] }

-- What is answered to a plan, on two cells and a log of three words.
abbrev pub plan_answered : (plan : List ℕ) → Told
plan_answered plan = (plan_outcome plan (pos 7 ∷ pos 8 ∷ []) (9 ∷ 9 ∷ 9 ∷ [])).answer

pub record Facts : Type 0 where
  -- 9: "op over 7, a field required zero is not" (COPY's b, OPEN's d, OPEN's b), "an address not below the lent cell count".
  pub tested : (plan_answered (0 ∷ 0x8000000000000000 ∷ []) ≡ at_place 9 1)
      × (plan_answered (0 ∷ 0x1000010000000001 ∷ []) ≡ at_place 9 1)
      × (plan_answered (0 ∷ 0x7000010000000000 ∷ []) ≡ at_place 9 1)
      × (plan_answered (0 ∷ 0x7000000000000001 ∷ []) ≡ at_place 9 1)
      × (plan_answered (0 ∷ 0x2000020000000000 ∷ []) ≡ at_place 9 1)
      × (plan_answered (0 ∷ 0x2000000000200000 ∷ []) ≡ at_place 9 1)
      × (plan_answered (0 ∷ 0x2000000000000002 ∷ []) ≡ at_place 9 1)
      × (plan_answered (0 ∷ 0x2000010000100001 ∷ []) ≡ ran_plan 0 2)
      × (plan_answered (0 ∷ 0x000001FFFFFFFFFF ∷ []) ≡ ran_plan 1 2)
  -- "or a word at place 16,777,216 or later": a COPY in place, and at the places on both sides; a bad word at any place.
  pub last_place : (bad_at 1 1 0x1000000000000000 ≡ false)
      × (bad_at 1 16777215 0x1000000000000000 ≡ false)
      × (bad_at 1 16777216 0x1000000000000000 ≡ true)
      × (bad_at 1 16777217 0x1000000000000000 ≡ true)
      × (bad_at 1 16777215 0x1000010000000000 ≡ true)
      × (bad_at 1 16777216 0x1000010000000000 ≡ true)
  -- "plan places from the header, itself never tested"; "lowest place first".
  pub places : (plan_answered (0xF000000000000000 ∷ []) ≡ ran_plan 0 1)
      × (plan_answered (0xF000000000000000 ∷ 0x8000000000000000 ∷ []) ≡ at_place 9 1)
      × (plan_answered (0 ∷ 0x1000000000000000 ∷ 0x8000000000000000 ∷ 0x9000000000000000 ∷ []) ≡ at_place 9 2)
  -- "The runner tests 9 .. then 7": four words would not fit either.
  pub order : (plan_answered (0 ∷ 0 ∷ 0 ∷ 0x8000000000000000 ∷ []) ≡ at_place 9 3) × (plan_answered (0 ∷ 0 ∷ 0 ∷ 0 ∷ []) ≡ by_number 7)
  -- 7 where the log is one word short; a published cell is a word of it, the last of three just fits. A header that looks like OPEN opens nothing.
  pub room : (plan_answered (0 ∷ 0x7000000000000000 ∷ []) ≡ ran_plan 1 3)
      × (plan_answered (0 ∷ 0x1000000000000000 ∷ 0x7000000000000000 ∷ []) ≡ by_number 7)
      × (plan_answered (0x7000000000000000 ∷ 0 ∷ 0 ∷ []) ≡ ran_plan 1 3)
      × ((plan_outcome (0 ∷ []) [] []).answer ≡ by_number 7)
      × ((plan_outcome (0 ∷ []) [] (9 ∷ [])).answer ≡ ran_plan 0 1)
  -- "an empty plan writes an empty log", whatever is lent.
  pub empty : (plan_outcome [] (pos 7 ∷ []) (9 ∷ []) ≡ record { answer = ran_plan 0 0; cells = pos 7 ∷ []; log = 9 ∷ [] })
      × (plan_outcome [] [] [] ≡ record { answer = ran_plan 0 0; cells = []; log = [] })
  -- "the runner its rounds and log length"; the header, here a SET of cell 2, is "never carried out"; the log beyond the needed part stays.
  pub runs : plan_outcome (0x0000020000000005 ∷ 0x000001FFFFFFFFFF ∷ 0x3000000000100000 ∷ 0x7000000000100000 ∷ [])
      (pos 7 ∷ pos 8 ∷ pos 9 ∷ []) (9 ∷ 9 ∷ 9 ∷ 9 ∷ 9 ∷ 9 ∷ [])
      ≡ record {
        answer = ran_plan 7 5;
        cells = pos 1 ∷ negsuc 0 ∷ pos 9 ∷ [];
        log = 0x0000020000000005 ∷ 0x000001FFFFFFFFFF ∷ 0x3000000000100000 ∷ 0x7000000000100000 ∷ 0xFFFFFFFFFFFFFFFF ∷ 9 ∷ [];
      }
  -- Document 02, ask 4: a word after one that it does not depend on, and after one that it does; MOVEIF "whatever [a] holds", here 0 and 7, an EQUAL
  -- of its cell tells; a published cell that looks like a LESS.
  pub rounds : (plan_answered (0 ∷ 0x3000010000000000 ∷ 0x3000000000000000 ∷ []) ≡ ran_plan 6 3)
      × (plan_answered (0 ∷ 0x3000010000000000 ∷ 0x3000000000100001 ∷ []) ≡ ran_plan 12 3)
      × ((plan_outcome (0 ∷ 0x6000010000000000 ∷ 0x4000000000100001 ∷ []) (pos 0 ∷ pos 8 ∷ []) (9 ∷ 9 ∷ 9 ∷ [])).answer ≡ ran_plan 7 3)
      × ((plan_outcome (0 ∷ 0x6000010000000000 ∷ 0x4000000000100001 ∷ []) (pos 7 ∷ pos 8 ∷ []) (9 ∷ 9 ∷ 9 ∷ [])).answer ≡ ran_plan 7 3)
      × ((plan_outcome (0 ∷ 0x7000000000000000 ∷ []) (pos 0x3000000000000000 ∷ []) (9 ∷ 9 ∷ 9 ∷ [])).answer ≡ ran_plan 1 3)
  -- "any other refusal only its number and .. place, and changes no lent buffer, in the runner .. too": of a plan whose first word would write.
  pub refuses : (plan_outcome (0 ∷ 0 ∷ 0x8000000000000000 ∷ []) (pos 7 ∷ []) (9 ∷ 9 ∷ 9 ∷ [])
      ≡ record { answer = at_place 9 2; cells = pos 7 ∷ []; log = 9 ∷ 9 ∷ 9 ∷ [] })
      × (plan_outcome (0 ∷ 0 ∷ 0 ∷ []) (pos 7 ∷ []) (9 ∷ 9 ∷ []) ≡ record { answer = by_number 7; cells = pos 7 ∷ []; log = 9 ∷ 9 ∷ [] })
