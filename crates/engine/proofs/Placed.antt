-- Where a run's verdict stands, and what is made of it, by the ways out of `verdict_left` and `publish`.
-- Rests on the laws of plans.
use mathlib.Core.Path.{◌≡◌, refl}
use mathlib.Core.List.{List}
use Rattle.std.specs.Prelude.{Option, Some, None}
use Prim.Native.Nat.{ℕ, ◌+◌, ◌^◌, ◌<◌, ◌≤◌}
use native.Mathlib.Omega.{arith}
use lib.IntN.{ℤ, pos}
use lib.ListN.{length, set}
use lib.Seq.{sets}
use lib.Signed.{mag}
use mir.Syntax.{w64}
use mir.Val.{of_z}
use Rattle.fields.specs.Fields.{bits_of}
use Rattle.machine.specs.Effect.{cell_at}
use Rattle.machine.proofs.Tested.{zero_test, ne_test}
use Rattle.plans.specs.declared.Header.{Header}
use Rattle.plans.specs.Plan.{Accepted, cells_of, verdict_cell}
use Rattle.plans.proofs.Headers.{each_method}
use Rattle.answers.specs.Refusal.{option_of}
use Rattle.demands.specs.Run.{verdict_at, opened_at, There}

-- ---- it is there

pub verdict_below : (h : Header) → Accepted h → (count : ℕ) → cells_of h ≤ count → There (verdict_cell h) count
unfolding verdict_cell cells_of
verdict_below =
    each_method (λ h. (count : ℕ) → cells_of h ≤ count → There (verdict_cell h) count) (λ n m source a count l. omega arith)
    (λ n source a count l. tt)
    (λ n m source a count l. omega arith)
    (λ n m a count l. omega arith)
    (λ n m source a count l. omega arith)

-- ---- by the ways out

module _ (v : Option ℕ) (cells : List ℤ) where
  module _ (cell : ℕ) (is : v ≡ Some cell) where
    pub there : There (option_of v) (length cells) → cell < length cells
    there b = rw is at b

    pub no_cycle : mag (cell_at cells cell) < 2 ^ 63 → of_z w64 (cell_at cells cell) ≡ 0 → 0 ≡ verdict_at (option_of v) cells
    no_cycle small e = rw (is, zero_test (cell_at cells cell) (record { sfits = small }) e)

    pub cycle : (of_z w64 (cell_at cells cell) ≡ 0 → ⊥) → 1 ≡ verdict_at (option_of v) cells
    cycle e = rw (is, ne_test (cell_at cells cell) (pos 0) e)

    pub published_cell : (log : List ℕ) (at word : ℕ) → word ≡ bits_of 64 (cell_at cells cell)
        → (at + 1 ≡ at + length (opened_at (option_of v) cells)) × (set log at word ≡ sets log at (opened_at (option_of v) cells))
    published_cell log at word e = rw (is, e) (refl, refl)

  pub nothing_published : v ≡ None → (log : List ℕ) (at : ℕ)
      → (at ≡ at + length (opened_at (option_of v) cells)) × (log ≡ sets log at (opened_at (option_of v) cells))
  nothing_published is log at = rw is (omega arith, refl)
