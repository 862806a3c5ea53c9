-- Saved distances converted to finer money (document 02, ask 7): which words are converted, to what, and what is refused.
-- Rests on refusals and on FAR.
use Rattle.std.specs.Prelude.{◌≡◌, Ok, Err, Bool, ◌&&◌, ◌||◌, cond, List, [], ◌∷◌, map, ℕ, suc, ◌-◌, ◌^◌, ℤ, pos, negsuc, ◌*ℤ◌}
use Rattle.std.proofs.Math.Option.{Option, none, some}
use Rattle.std.specs.Int.Signed.{le_z}
use Rattle.answers.specs.Refusal.{Refusal, Checked, Weight, need, rule_of}
use Rattle.answers.specs.Told.{Told, refused}
use Rattle.machine.specs.Effect.{eq_z}
use Rattle.plans.specs.Limits.{far}

-- ---- the numbers as they were

-- The mark of an unreached vertex (document 01's FAR).
abbrev pub old_far : ℤ
old_far = pos (2 ^ 38)

-- The greatest distance either way: of 31 edges at 1,000,000.
abbrev pub old_most : ℕ
old_most = 31000000

-- How many of today's units the old one is.
abbrev pub factor : ℕ
factor = 100

-- ---- one word

-- The old mark, or a distance of old.
unfoldable pub convertible : ℤ → Bool
convertible z = eq_z z old_far || (le_z (negsuc (old_most - 1)) z && le_z z (pos old_most))

unfoldable pub converted : ℤ → ℤ
converted z = cond (eq_z z old_far) far (pos factor *ℤ z)

-- ---- the buffer

-- 11 with the lowest place of a word that is neither; the first word is at `place`.
unfoldable pub saved_refusal : (place : ℕ) → List ℤ → Option Refusal
saved_refusal place [] = none
saved_refusal place (z ∷ zs) = need (convertible z) (Weight place) (saved_refusal (suc place) zs)

-- What an answer says, in document 01's number, place and values.
abbrev pub told_by_conversion : Checked → Told
told_by_conversion (Ok done) = record { number = 0; place = none; values = [] }
told_by_conversion (Err r) = refused (rule_of r)

-- The answer, and what the lent buffer holds after it.
pub record ConversionOutcome : Type 0 where
  pub answer : Told
  pub saved : List ℤ

-- By the refusal met: a refusal changes no word.
abbrev pub conversion_outcome_by : Option Refusal → (saved : List ℤ) → ConversionOutcome
conversion_outcome_by none zs = record { answer = told_by_conversion (Ok tt); saved = map converted zs }
conversion_outcome_by (some r) zs = record { answer = refused r; saved = zs }

unfoldable pub conversion_outcome : (saved : List ℤ) → ConversionOutcome
conversion_outcome zs = conversion_outcome_by (saved_refusal 0 zs) zs

pub record MetConversion (left : ConversionOutcome) (answer : Checked) (saved : List ℤ) : Type 0 where
  pub answers : told_by_conversion answer ≡ left.answer
  pub words : saved ≡ left.saved
