-- A plan written to the start of a buffer: its header word, and then its operation words.
-- Rests on Filled and on the laws of plans.
use mathlib.Core.Path.{◌≡◌, ap, ◌∙◌}
use mathlib.Core.List.{List}
use Prim.Native.Nat.{ℕ, ◌<◌, ◌≤◌}
use native.Mathlib.Omega.{arith}
use lib.ListN.{length, set, drop, length-set, length-append, length-drop}
use Rattle.lists.specs.Buffers.{overwritten}
use Rattle.lists.proofs.Filled.{from_start}
use Rattle.plans.specs.declared.Header.{Header}
use Rattle.plans.specs.Plan.{Accepted, header_word, plan_of, length_of}
use Rattle.plans.proofs.Figures.{length_plan}
use Rattle.tables.specs.Writing.{Wrote}

module _ (h : Header) (a : Accepted h) (buffer : List ℕ) (room : length_of h ≤ length buffer) where
  pub some_room : 0 < length buffer
  unfolding plan_of
  some_room = omega (arith, length_plan h a)

  pub still_room : (w : ℕ) → length_of h ≤ length (set buffer 0 w)
  still_room w = omega (arith, length-set buffer 0 w)

  pub filled : {w : ℕ} {after : List ℕ} {size : ℕ} → w ≡ header_word h → Wrote (drop 1 (plan_of h)) (set buffer 0 w) after 1 size
      → (size ≡ length_of h) × (after ≡ overwritten (plan_of h) buffer)
  unfolding plan_of
  filled e p = (
    omega (arith, length_plan h a, p.ends),
    p.written ∙ rw e (from_start (plan_of h) buffer (omega (arith, length_plan h a))),
  )

  pub long : (after : List ℕ) → after ≡ overwritten (plan_of h) buffer → length after ≡ length buffer
  long after e =
      ap length e
      ∙ length-append (plan_of h) (drop (length (plan_of h)) buffer)
      ∙ omega (arith, length_plan h a, length-drop (length (plan_of h)) buffer)
