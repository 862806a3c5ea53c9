-- What a conversion does, in the numbers of document 02, ask 7, as plain propositions; no test of a refusal is named.
-- Rests on what is left by a conversion.
use Rattle.std.specs.Prelude.{◌≡◌, ◌↔◌, ◌⊎◌, ◌≢◌, List, [], ℕ, ◌<◌, ℤ, pos, negsuc, ◌*ℤ◌, length, get_or, ◌≤ℤ◌}
use Rattle.std.proofs.Math.Option.{none, some}
use Rattle.saved.specs.Saved.{conversion_outcome}

-- "2^38", or from "-31,000,000 to 31,000,000".
abbrev pub OfOld : ℤ → Type 0
OfOld z = (z ≡ pos 274877906944) ⊎ ((negsuc 30999999 ≤ℤ z) × (z ≤ℤ pos 31000000))

abbrev pub AllOfOld : (saved : List ℤ) → Type 0
AllOfOld saved = (i : ℕ) → i < length saved → OfOld (get_or saved i (pos 0))

-- The word at a place is not, and each before it is.
pub record LowestAt (saved : List ℤ) (place : ℕ) : Type 0 where
  pub there : place < length saved
  pub lower : (i : ℕ) → i < place → OfOld (get_or saved i (pos 0))
  pub outside : ¬ OfOld (get_or saved place (pos 0))

pub record Converts (saved : List ℤ) : Type 0 where
  -- It is told by 0 exactly where every word is of old.
  pub converts : ((conversion_outcome saved).answer ≡ record { number = 0; place = none; values = [] }) ↔ AllOfOld saved
  -- Then "2^38 becomes the new mark, every other word is multiplied by 100".
  pub mark : AllOfOld saved → (i : ℕ) → i < length saved → get_or saved i (pos 0) ≡ pos 274877906944
      → get_or (conversion_outcome saved).saved i (pos 0) ≡ pos 549755813887
  pub distance : AllOfOld saved → (i : ℕ) → i < length saved → get_or saved i (pos 0) ≢ pos 274877906944
      → get_or (conversion_outcome saved).saved i (pos 0) ≡ pos 100 *ℤ get_or saved i (pos 0)
  -- "11 with the lowest such place and the buffer is unchanged", exactly there; there is nothing else.
  pub refuses : (place : ℕ)
      → (conversion_outcome saved ≡ record { answer = record { number = 11; place = some place; values = [] }; saved = saved }) ↔ LowestAt saved place
  pub settled : AllOfOld saved ⊎ ((place : ℕ) × LowestAt saved place)
  pub long : length (conversion_outcome saved).saved ≡ length saved
