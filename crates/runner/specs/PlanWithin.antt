-- The limits of document 01 for a foreign plan and the buffers lent for it, as plain propositions: what a plan that meets no refusal is, and what
-- one that meets 9 or 7 is.
-- Rests on the fields of words; no test of a refusal is named.
use Rattle.std.specs.Prelude.{◌≡◌, ◌≢◌, List, ℕ, ◌<◌, ◌≤◌, length, get_or}
use Rattle.machine.specs.Word.{op_field, d_field, a_field, b_field}
use Rattle.runner.specs.Runner.{log_size}

-- An operation word at a place, for a bank of `count` cells. SET (0) has one address, COPY (1) two and a zero, OPEN (7) one and two zeros,
-- every other op three.
pub record WordAllowed (count place word : ℕ) : Type 0 where
  pub known : op_field word ≤ 7
  pub copy_zero : op_field word ≡ 1 → b_field word ≡ 0
  pub open_zeros : op_field word ≡ 7 → (d_field word ≡ 0) × (b_field word ≡ 0)
  pub d_there : op_field word ≢ 7 → d_field word < count
  pub a_there : op_field word ≢ 0 → a_field word < count
  pub b_there : op_field word ≢ 0 → op_field word ≢ 1 → op_field word ≢ 7 → b_field word < count
  pub place_there : place < 16777216

-- Every word before `end` is allowed. Places count from the header, which may be any word.
abbrev pub AllowedTo : (plan : List ℕ) (count end : ℕ) → Type 0
AllowedTo plan count end = (place : ℕ) → 1 ≤ place → place < end → WordAllowed count place (get_or plan place 0)

pub record PlanWithin (plan : List ℕ) (count room : ℕ) : Type 0 where
  pub words_allowed : AllowedTo plan count (length plan)
  pub log_enough : log_size plan ≤ room

-- 9: the word at a place is the first that is not allowed.
pub record NotAllowedAt (plan : List ℕ) (count place : ℕ) : Type 0 where
  pub after_header : 1 ≤ place
  pub there : place < length plan
  pub words_before : AllowedTo plan count place
  pub not_allowed : ¬ WordAllowed count place (get_or plan place 0)

-- 7: every word is allowed, and the log is too short.
pub record LogShort (plan : List ℕ) (count room : ℕ) : Type 0 where
  pub words_allowed : AllowedTo plan count (length plan)
  pub too_short : room < log_size plan
