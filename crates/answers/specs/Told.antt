-- An answer in document 01's terms, and that of a refusal. Rests on refusals.
use Rattle.std.specs.Prelude.{◌≡◌, Result, Ok, Err, false, List, [], ℕ, eqb}
use Rattle.std.proofs.Math.Option.{Option}
use Rattle.answers.specs.Refusal.{Refusal}
use Rattle.answers.specs.Refusal.{place_of}

-- The refusal's number (0 where there is none), its place where there is one, and the values told.
pub record Told : Type 0 where
  pub number : ℕ
  pub place : Option ℕ
  pub values : List ℕ

-- A refusal tells only its number and its place.
abbrev pub refused : Refusal → Told
refused r = record { number = r.number; place = place_of r; values = [] }

-- What an answer tells, by what its parts tell.
abbrev pub told_in : {T E : Type 0} → (T → Told) → (E → Told) → Result T E → Told
told_in done failed (Ok x) = done x
told_in done failed (Err e) = failed e

-- Its number is not one that a run is told by, 0 or 12.
abbrev pub Apart : Refusal → Type 0
Apart r = (eqb r.number 0 ≡ false) × (eqb r.number 12 ≡ false)
