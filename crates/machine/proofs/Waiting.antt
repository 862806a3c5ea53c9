-- Depths go by what effects say: an instruction's effect depends on the cells that it reads alone, and writes the cell alone that depths give to it.
-- Rests on the definitions alone.
use mathlib.Core.Path.{◌≡◌, refl, ap, ap₂}
use mathlib.Core.Option.{Option, none, some}
use lib.IntN.{ℤ}
use lib.Signed.{lt_z}
use Rattle.machine.specs.Instruction.{Instruction, SET, COPY, ADD, LESS, EQUAL, BOTH, MOVEIF, OPEN, addresses, All}
use Rattle.machine.specs.Effect.{Effect, writes, nothing, effect, wrap_add, bit, eq_z, both}
use Rattle.machine.specs.Depth.{reads, target}

module _ {A : Type 0} where
  -- Where two banks have the same numbers in the cells that are read, the effect is the same.
  pub reads_alone : (i : Instruction A) (s t : A → ℤ) → All (λ a. s a ≡ t a) (reads i) → effect i s ≡ effect i t
  reads_alone (SET d c) s t h = refl
  reads_alone (COPY d a) s t h = ap (writes d) h.0
  reads_alone (ADD d a b) s t h = ap₂ (λ (x y : ℤ). writes d (wrap_add x y)) h.0 h.1.0
  reads_alone (LESS d a b) s t h = ap₂ (λ (x y : ℤ). writes d (bit (lt_z x y))) h.0 h.1.0
  reads_alone (EQUAL d a b) s t h = ap₂ (λ (x y : ℤ). writes d (bit (eq_z x y))) h.0 h.1.0
  reads_alone (BOTH d a b) s t h = ap₂ (λ (x y : ℤ). writes d (both x y)) h.0 h.1.0
  reads_alone (MOVEIF d a b) s t h = rw (h.0, h.1.0, h.1.1.0)
  reads_alone (OPEN a) s t h = refl

  abbrev pub written_by : Effect A → Option A
  written_by (writes d z) = some d
  written_by nothing = none

  pub target_alone : (i : Instruction A) (s : A → ℤ) → written_by (effect i s) ≡ target i
  target_alone (SET d c) s = refl
  target_alone (COPY d a) s = refl
  target_alone (ADD d a b) s = refl
  target_alone (LESS d a b) s = refl
  target_alone (EQUAL d a b) s = refl
  target_alone (BOTH d a b) s = refl
  target_alone (MOVEIF d a b) s = refl
  target_alone (OPEN a) s = refl

  -- It is one of those that the instruction names: what holds of these holds of it.
  abbrev pub OfTarget : (P : A → Type 0) → Option A → Type 0
  OfTarget P none = Unit {0}
  OfTarget P (some d) = P d

  pub target_named : (P : A → Type 0) (i : Instruction A) → All P (addresses i) → OfTarget P (target i)
  target_named P (SET d c) h = h.0
  target_named P (COPY d a) h = h.0
  target_named P (ADD d a b) h = h.0
  target_named P (LESS d a b) h = h.0
  target_named P (EQUAL d a b) h = h.0
  target_named P (BOTH d a b) h = h.0
  target_named P (MOVEIF d a b) h = h.0
  target_named P (OPEN a) h = tt
