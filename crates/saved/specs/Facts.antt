-- Document 02, ask 7, "a lent buffer of saved distances is converted", as facts. Rests on the definitions alone.
use Rattle.std.specs.Prelude.{◌≡◌, List, [], ◌∷◌, ℕ, ℤ, pos, negsuc}
use Rattle.std.proofs.Math.Option.{none, some}
use Rattle.saved.specs.Saved.{ConversionOutcome, conversion_outcome}

abbrev pub done : List ℤ → ConversionOutcome
done words = record { answer = record { number = 0; place = none; values = [] }; saved = words }

abbrev pub eleven_at : (place : ℕ) → List ℤ → ConversionOutcome
eleven_at place words = record { answer = record { number = 11; place = some place; values = [] }; saved = words }

pub record Facts : Type 0 where
  -- "2^38 becomes the new mark, every other word is multiplied by 100": both ends, 0, and a rebate.
  pub converts : conversion_outcome (pos 0 ∷ pos 274877906944 ∷ negsuc 30999999 ∷ pos 31000000 ∷ negsuc 0 ∷ [])
      ≡ done (pos 0 ∷ pos 549755813887 ∷ negsuc 3099999999 ∷ pos 3100000000 ∷ negsuc 99 ∷ [])
  pub empty : conversion_outcome [] ≡ done []
  -- "if one lies outside -31,000,000 to 31,000,000, the answer is 11 with the lowest such place and the buffer is unchanged".
  pub over : conversion_outcome (pos 31000001 ∷ []) ≡ eleven_at 0 (pos 31000001 ∷ [])
  pub under : conversion_outcome (negsuc 31000000 ∷ []) ≡ eleven_at 0 (negsuc 31000000 ∷ [])
  pub lowest : conversion_outcome (pos 5 ∷ pos 31000001 ∷ pos 7 ∷ negsuc 31000000 ∷ []) ≡ eleven_at 1 (pos 5 ∷ pos 31000001 ∷ pos 7 ∷ negsuc 31000000 ∷ [])
  -- A number beside the old mark, and the new mark: what is converted already is not taken for old where it has a mark.
  pub beside : (conversion_outcome (pos 274877906943 ∷ []) ≡ eleven_at 0 (pos 274877906943 ∷ []))
      × (conversion_outcome (pos 274877906945 ∷ []) ≡ eleven_at 0 (pos 274877906945 ∷ []))
  pub twice : conversion_outcome (pos 0 ∷ pos 549755813887 ∷ []) ≡ eleven_at 1 (pos 0 ∷ pos 549755813887 ∷ [])
