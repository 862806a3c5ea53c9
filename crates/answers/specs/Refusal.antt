-- Refusals (document 01, "Who caused it", with asks 1, 3 and 5 of document 02) by name, each with its number and place, and the first of several
-- that is met. Rests on nothing.
use Rattle.std.specs.Prelude.{Bool, true, false, cond, List, [], ◌∷◌, ℕ, Result, Ok, Err, Some, None}
use Rattle.std.proofs.Math.Option.{Option, none, some}
use Rattle.std.specs.declared.option.Option as Code
use Rattle.answers.specs.declared.Refusal as Answers
use Rattle.answers.specs.declared.Refusal.TheVariants as Fault

-- ---- numbers and places

-- A refusal in the rules' terms.
pub record Refusal : Type 0 where
  pub number : ℕ
  pub placed : Bool
  pub place : ℕ

-- A refusal without a place, and one with its place.
abbrev pub plain : (number : ℕ) → Refusal
plain number = record { number = number; placed = false; place = 0 }

abbrev pub placed : (number place : ℕ) → Refusal
placed number place = record { number = number; placed = true; place = place }

abbrev pub Method : Refusal
Method = plain 1

abbrev pub Vertices : Refusal
Vertices = plain 2

abbrev pub Edges : Refusal
Edges = plain 3

abbrev pub Source : Refusal
Source = plain 4

abbrev pub Words : Refusal
Words = plain 5

abbrev pub Cells : Refusal
Cells = plain 6

abbrev pub Log : Refusal
Log = plain 7

abbrev pub Results : Refusal
Results = plain 8

abbrev pub Operation : (place : ℕ) → Refusal
Operation place = placed 9 place

abbrev pub SpareBits : (place : ℕ) → Refusal
SpareBits place = placed 10 place

abbrev pub Weight : (place : ℕ) → Refusal
Weight place = placed 11 place

abbrev pub FromVertex : (place : ℕ) → Refusal
FromVertex place = placed 13 place

abbrev pub ToVertex : (place : ℕ) → Refusal
ToVertex place = placed 14 place

abbrev pub Unsorted : (place : ℕ) → Refusal
Unsorted place = placed 15 place

abbrev pub Destination : Refusal
Destination = plain 16

abbrev pub place_of : Refusal → Option ℕ
place_of r = cond r.placed (some r.place) none

-- ---- as the code has them

-- A refusal of the code by its number and place.
abbrev pub rule_of : Answers.Refusal → Refusal
rule_of Fault.Method = Method
rule_of Fault.Vertices = Vertices
rule_of Fault.Edges = Edges
rule_of Fault.Source = Source
rule_of Fault.Words = Words
rule_of Fault.Cells = Cells
rule_of Fault.Log = Log
rule_of Fault.Results = Results
rule_of (Fault.Operation place) = Operation place
rule_of (Fault.SpareBits place) = SpareBits place
rule_of (Fault.Weight place) = Weight place
rule_of (Fault.FromVertex place) = FromVertex place
rule_of (Fault.ToVertex place) = ToVertex place
rule_of (Fault.Unsorted place) = Unsorted place
rule_of Fault.Destination = Destination

-- An optional value of the code.
abbrev pub option_of : {T : Type 0} → Code.Option T → Option T
option_of None = none
option_of (Some x) = some x

-- What a check answers that gives nothing.
abbrev pub Checked : Type 0
Checked = Result (Unit {0}) Answers.Refusal

-- The refusal that a check found.
abbrev pub found : {T : Type 0} → Result T Answers.Refusal → Option Refusal
found (Ok passed) = none
found (Err r) = some (rule_of r)

-- ---- checks

-- r unless the test holds; where it does, what comes after it.
abbrev pub need : Bool → Refusal → Option Refusal → Option Refusal
need true r later = later
need false r later = some r

-- The first refusal of tests in their order, each with its own where it fails.
abbrev pub first_of : List (Bool × Refusal) → Option Refusal
first_of [] = none
first_of (t ∷ ts) = need t.0 t.1 (first_of ts)

-- The first refusal of two checks.
abbrev pub or_else : Option Refusal → Option Refusal → Option Refusal
or_else none later = later
or_else (some r) later = some r
