-- A list written from the start of a buffer, one element after the other: the loop's invariant and its laws. For any type of elements.
-- Rests on the definition of a written buffer.
use mathlib.Core.Path.{◌≡◌, refl, sym, ap, ◌∙◌}
use mathlib.Core.List.{List, ◌++◌}
use Prim.Native.Nat.{ℕ, ◌+◌, ◌<◌, ◌≤◌, zero-le}
use native.Mathlib.Nat.{zero-add}
use native.Mathlib.Numerals.{add-one}
use native.Mathlib.Omega.{arith}
use lib.ListN.{length, get_or, set, drop, length-set, drop_of_length-le}
use lib.Seq.{drop-cons, sets, sets-eq}
use Rattle.lists.specs.Buffers.{overwritten}

module _ {X : Type 0} where
  -- From the start of a buffer, which stays as it was beyond them.
  pub from_start : (xs buffer : List X) → length xs ≤ length buffer → sets buffer 0 xs ≡ overwritten xs buffer
  from_start xs buffer h =
      sets-eq xs buffer 0 (omega arith) ∙ ap (λ (k : ℕ). xs ++ drop k buffer) (zero-add (length xs))

  -- Before the element at place k: writing what is left gives what writing all of it to the first buffer gives.
  pub record Filling (xs buffer₀ buffer : List X) (k : ℕ) : Type 0 where
    pub within : k ≤ length xs
    pub long : length buffer ≡ length buffer₀
    pub rest : sets buffer k (drop k xs) ≡ sets buffer₀ 0 xs

  pub start : (xs buffer : List X) → Filling xs buffer buffer 0
  start xs buffer = record { within = zero-le; long = refl; rest = refl }

  pub again : (xs buffer₀ buffer : List X) (k : ℕ) (x d : X) → k < length xs → x ≡ get_or xs k d → Filling xs buffer₀ buffer k
      → Filling xs buffer₀ (set buffer k x) (k + 1)
  again xs buffer₀ buffer k x d h e f =
      record {
        within = omega arith;
        long = length-set buffer k x ∙ f.long;
        rest = rw (e, add-one k) (sym (ap (sets buffer k) (drop-cons xs k d h)) ∙ f.rest);
      }

  pub done : (xs buffer₀ buffer : List X) (k : ℕ) → length xs ≤ k → length xs ≤ length buffer₀ → Filling xs buffer₀ buffer k
      → buffer ≡ overwritten xs buffer₀
  done xs buffer₀ buffer k h l f =
      sym (ap (sets buffer k) (drop_of_length-le xs h)) ∙ f.rest ∙ from_start xs buffer₀ l
