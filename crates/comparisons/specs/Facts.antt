-- Requests compared, as facts: in hundredths, by their least prices, and with fees moved. Rests on the definitions alone.
use Rattle.std.specs.Prelude.{List, [], ◌∷◌, ◌++◌, ℕ, ◌+◌, ℤ, pos, negsuc, get_or}
use Rattle.std.proofs.Math.Option.{none, some}
use Rattle.plans.specs.Limits.{far}
use Rattle.comparisons.specs.Repriced.{Hundredfold, FeesMoved}
use Rattle.comparisons.specs.Totals.{LeastPrice, SamePrices}
use Rattle.comparisons.specs.Fees.{Rises}

-- ---- requests of 2 yards

-- Lanes from 0 to 1 at 9 and at 7, and from 1 to itself at 2.
abbrev pub lanes : List ℕ
lanes = 0x1000020000300000 ∷ 0x0001000000000009 ∷ 0x0001000000000007 ∷ 0x0101000000000002 ∷ []

-- One lane from 0 to 1 at this price, in a method with lanes; and in method 5, with a destination.
abbrev pub lane : (header price : ℕ) → List ℕ
lane header price = header ∷ (0x0001000000000000 + price) ∷ []

abbrev pub routed : (price destination : ℕ) → List ℕ
routed price destination = lane 0x5000020000100000 price ++ destination ∷ []

-- A table with one lane from 0 to 1 at this price.
abbrev pub table : (price : ℕ) → List ℕ
table price = 0x2000020000000000 ∷ 0x00000000FFFFFFFF ∷ price ∷ 0x00000000FFFFFFFF ∷ 0x00000000FFFFFFFF ∷ []

-- 3 for yard 0 and -4 for yard 1.
abbrev pub fee : ℕ → ℤ
fee v = get_or (pos 3 ∷ negsuc 3 ∷ []) v (pos 0)

pub record Facts : Type 0 where
  -- In hundredths the printed request's lane at -5 becomes one at -500.
  pub printed : Hundredfold (0x1000020000100000 ∷ 0x00010000FFFFFFFB ∷ []) (0x1000020000100000 ∷ 0x00010000FFFFFE0C ∷ [])
  -- A table: no lane stays no lane, 7 becomes 700 and 1,000,000 becomes 100,000,000.
  pub hundredths : Hundredfold (0x2000020000000000 ∷ 0 ∷ 0x00000000FFFFFFFF ∷ 7 ∷ 0x00000000000F4240 ∷ [])
      (0x2000020000000000 ∷ 0 ∷ 0x00000000FFFFFFFF ∷ 700 ∷ 0x0000000005F5E100 ∷ [])
  -- No lane is not -100, and the ends stay.
  pub no_lane : ¬ Hundredfold (0x2000010000000000 ∷ 0x00000000FFFFFFFF ∷ []) (0x2000010000000000 ∷ 0x00000000FFFFFF9C ∷ [])
  pub ends : ¬ Hundredfold (0x1000020000100000 ∷ 0x0001000000000001 ∷ []) (0x1000020000100000 ∷ 0x0100000000000064 ∷ [])
  -- The least price of parallel lanes is the lesser, that of an entry the entry; from 1 to 0 there is none.
  pub least : LeastPrice lanes 0 1 (some (pos 7)) × LeastPrice lanes 1 0 none
  pub entry : LeastPrice (table 7) 0 1 (some (pos 7)) × LeastPrice (table 7) 1 0 none
  -- So these agree, whatever a yard's lanes to itself, the source and the destination; with the greater price they do not, nor without the lane.
  pub agree_2 : SamePrices lanes (table 7)
  pub agree_3 : SamePrices lanes (lane 0x3000020000100000 7)
  pub agree_4 : SamePrices (lane 0x1000020000100001 7) (lane 0x4000020000100000 7)
  pub agree_5 : SamePrices (lane 0x4000020000100000 7) (routed 7 0)
  pub greater : ¬ SamePrices lanes (table 9)
  pub missing : ¬ SamePrices lanes (table 0x00000000FFFFFFFF)
  -- With these fees a lane from 0 to 1 rises by 7, and one from 1 to 0 falls by 7: 7 and 5 become 14 and -2. Not the other way round.
  pub fees_1 : FeesMoved fee (0x1000020000200000 ∷ 0x0001000000000007 ∷ 0x0100000000000005 ∷ [])
      (0x1000020000200000 ∷ 0x000100000000000E ∷ 0x01000000FFFFFFFE ∷ [])
  pub turned : ¬ FeesMoved fee (0x1000020000200000 ∷ 0x0001000000000007 ∷ 0x0100000000000005 ∷ [])
      (0x1000020000200000 ∷ 0x0001000000000000 ∷ 0x010000000000000C ∷ [])
  -- In every method 7 becomes 14, in method 5 with another destination, too; no lane of a table stays no lane, and a lane does not become none.
  pub fees_2 : FeesMoved fee (table 7) (table 14)
  pub fees_3 : FeesMoved fee (lane 0x3000020000100000 7) (lane 0x3000020000100000 14)
  pub fees_4 : FeesMoved fee (lane 0x4000020000100000 7) (lane 0x4000020000100000 14)
  pub fees_5 : FeesMoved fee (routed 7 1) (routed 14 0)
  pub lost : ¬ FeesMoved (λ v. get_or (pos 0 ∷ pos 8 ∷ []) v (pos 0)) (table 7) (table 0x00000000FFFFFFFF)
  -- A distance of 7 from 0 to 1 becomes 14, and FAR stays FAR; an unreached yard is not reached then, nor the other way round.
  pub rises : Rises fee 0 1 (pos 7) (pos 14) × Rises fee 0 1 far far
  pub stays : ¬ Rises fee 0 1 (pos 7) (pos 7)
  pub appears : ¬ Rises fee 0 1 far (pos 0)
  pub vanishes : ¬ Rises fee 0 1 (pos 7) far
