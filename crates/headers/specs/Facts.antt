-- Document 01, "Who caused it", as facts about literal words: which header is refused, by which number, and in which order.
-- Rests on the definitions alone.
use Rattle.std.specs.Prelude.{◌≡◌, ℕ}
use Rattle.std.proofs.Math.Option.{Option, none, some}
use Rattle.answers.specs.Refusal.{Refusal}
use Rattle.plans.specs.Plan.{header_of}
use Rattle.headers.specs.Refusal.{header_refusal}

-- The number that a header word meets, 0 where it meets none.
abbrev pub number_met : Option Refusal → ℕ
number_met none = 0
number_met (some r) = r.number

abbrev pub header_meets : (word : ℕ) → ℕ
header_meets w = number_met (header_refusal (header_of w))

pub record Facts : Type 0 where
  -- "n is 1 to 32, m is 0 to 128", m is 0 in method 2, the source is below n: headers at the ends, and one past each.
  pub ends : (header_meets 0x1000010000000000 ≡ 0)
      × (header_meets 0x100020000800001F ≡ 0)
      × (header_meets 0x2000010000000000 ≡ 0)
      × (header_meets 0x200020000000001F ≡ 0)
      × (header_meets 0x0000010000000000 ≡ 1)
      × (header_meets 0x3000010000000000 ≡ 0)
      × (header_meets 0x300020000800001F ≡ 0)
      × (header_meets 0xF000010000000000 ≡ 1)
      × (header_meets 0x1000000000000000 ≡ 2)
      × (header_meets 0x1000210000000000 ≡ 2)
      × (header_meets 0x1000200008100000 ≡ 3)
      × (header_meets 0x2000200000100000 ≡ 3)
      × (header_meets 0x3000200008100000 ≡ 3)
      × (header_meets 0x1000200008000020 ≡ 4)
      × (header_meets 0x2000200000000020 ≡ 4)
      × (header_meets 0x3000200008000020 ≡ 4)
  -- Ask 5: "1 admits 5; 3 and 4 as method 1".
  pub ends5 : (header_meets 0x5000010000000000 ≡ 0)
      × (header_meets 0x500020000800001F ≡ 0)
      × (header_meets 0x6000010000000000 ≡ 1)
      × (header_meets 0x5000000000000000 ≡ 2)
      × (header_meets 0x5000210000000000 ≡ 2)
      × (header_meets 0x5000200008100000 ≡ 3)
      × (header_meets 0x5000200008000020 ≡ 4)
  -- Ask 8: "1 admits 4; 4 when the source field is not 0; 3 .. as method 1".
  pub ends4 : (header_meets 0x4000010000000000 ≡ 0)
      × (header_meets 0x4000200008000000 ≡ 0)
      × (header_meets 0x4000000000000000 ≡ 2)
      × (header_meets 0x4000210000000000 ≡ 2)
      × (header_meets 0x4000200008100000 ≡ 3)
      × (header_meets 0x4000200008000001 ≡ 4)
      × (header_meets 0x400020000800001F ≡ 4)
      × (header_meets 0x4000200008000020 ≡ 4)
      × (header_meets 0x4000200008100001 ≡ 3)
  -- "Order: 1 to 8 by number": headers that would meet two neighbours, or all four, meet the lower.
  pub order : (header_meets 0x0000000008100000 ≡ 1)
      × (header_meets 0x0000000000000000 ≡ 1)
      × (header_meets 0x6000210000000000 ≡ 1)
      × (header_meets 0x1000000008100000 ≡ 2)
      × (header_meets 0x1000210008100000 ≡ 2)
      × (header_meets 0x2000000000100000 ≡ 2)
      × (header_meets 0x1000010008100001 ≡ 3)
      × (header_meets 0x2000010000100001 ≡ 3)
