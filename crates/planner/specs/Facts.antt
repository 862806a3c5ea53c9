-- Document 01, "Who caused it", as facts about literal words: what writing a plan answers and leaves.
-- Rests on the definitions alone.
use Rattle.std.specs.Prelude.{◌≡◌, List, [], ◌∷◌, ◌++◌, ℕ, length, replicate}
use Rattle.std.proofs.Math.Option.{none}
use Rattle.answers.specs.Told.{Told}
use Rattle.answers.specs.Facts.{by_number}
use Rattle.planner.specs.Written.{plan_refusal, plan_words, answer_of, buffer_of}

-- Document 01, "Requests at the edges", 1: the plan of method 1, n = 1, m = 0.
abbrev pub smallest_plan : List ℕ
smallest_plan =
    0x1000010000000000
    ∷ 0x0000020000000000
    ∷ 0x0000000000000000
    ∷ 0x000001FFFFFFFFFF
    ∷ 0x0000037FFFFFFFFF
    ∷ 0x00000A0000000000
    ∷ 0x7000000000A00000
    ∷ []

-- What writing a plan answers, and the buffer that it leaves.
abbrev pub writing_answered : (header buffer : List ℕ) → Told
writing_answered header buffer = answer_of (plan_refusal header (length buffer)) (plan_words header)

abbrev pub buffer_left : (header buffer : List ℕ) → List ℕ
buffer_left header buffer = buffer_of (plan_refusal header (length buffer)) (plan_words header) buffer

pub record Facts : Type 0 where
  -- "Writing a plan can meet 1 to 4 and 7": 1 without a header word; 1 to 4 before 7, here of an empty buffer, which stays.
  pub writing_first : (writing_answered [] [] ≡ by_number 1)
      × (writing_answered (0x0000010000000000 ∷ []) [] ≡ by_number 1)
      × (writing_answered (0x1000210000000000 ∷ []) [] ≡ by_number 2)
      × (writing_answered (0x1000010008100000 ∷ []) [] ≡ by_number 3)
      × (writing_answered (0x1000010000000001 ∷ []) [] ≡ by_number 4)
      × (writing_answered (0x4000020000000001 ∷ []) [] ≡ by_number 4)
      × (writing_answered (0x1000010000000000 ∷ []) [] ≡ by_number 7)
  -- 7 one word short of the plan. A refusal "changes no lent buffer".
  pub writing_short : (writing_answered (0x1000010000000000 ∷ []) (replicate 6 9) ≡ by_number 7)
      × (buffer_left (0x1000010000000000 ∷ []) (replicate 6 9) ≡ replicate 6 9)
      × (writing_answered (0x2000010000000000 ∷ []) (replicate 20 9) ≡ by_number 7)
      × (buffer_left (0x6000010000000000 ∷ []) (replicate 20 9) ≡ replicate 20 9)
      × (writing_answered (0x3000010000000000 ∷ []) (replicate 10 9) ≡ by_number 7)
      × (writing_answered (0x4000010000000000 ∷ []) (replicate 38 9) ≡ by_number 7)
      × (writing_answered (0x5000010000000000 ∷ []) (replicate 8 9) ≡ by_number 7)
  -- "and answers its length": a buffer that has room for it, and more. The rest of it stays; a second header word is not looked at.
  pub writing : (writing_answered (0x1000010000000000 ∷ []) (replicate 7 9) ≡ record { number = 0; place = none; values = 7 ∷ [] })
      × (writing_answered (0x2000010000000000 ∷ []) (replicate 21 9) ≡ record { number = 0; place = none; values = 21 ∷ [] })
      × (writing_answered (0x3000010000000000 ∷ []) (replicate 11 9) ≡ record { number = 0; place = none; values = 11 ∷ [] })
      × (writing_answered (0x4000010000000000 ∷ []) (replicate 39 9) ≡ record { number = 0; place = none; values = 39 ∷ [] })
      × (writing_answered (0x5000010000000000 ∷ []) (replicate 9 9) ≡ record { number = 0; place = none; values = 9 ∷ [] })
      × (writing_answered (0x1000010000000000 ∷ 0 ∷ []) (replicate 9 9) ≡ record { number = 0; place = none; values = 7 ∷ [] })
      × (buffer_left (0x1000010000000000 ∷ 0 ∷ []) (replicate 9 9)
      ≡ smallest_plan ++ (9 ∷ 9 ∷ []))
