-- The words of a lent buffer in their order: the loops of `check` and `convert_words`, each with its invariant and its laws; and what is left.
-- Rests on the definitions and on laws of lists.
use mathlib.Core.Path.{◌≡◌, refl, sym, ap, ◌∙◌}
use mathlib.Core.Bool.{Bool, true, false, not}
use mathlib.Core.List.{List, ◌++◌, map, append-nil}
use mathlib.Core.Option.{none, some}
use Rattle.std.specs.Prelude.{Ok, Err}
use Prim.Native.Nat.{ℕ, ◌+◌, ◌^◌, ◌<◌, ◌≤◌, zero-le}
use native.Mathlib.Numerals.{add-one}
use native.Mathlib.Omega.{arith}
use lib.Dec.{T}
use lib.IntN.{ℤ, pos}
use lib.ListN.{length, get_or, set, drop, length-map, length-set, drop_of_length-le}
use lib.Seq.{drop-cons, sets, drop-set-lt}
use lib.Signed.{mag}
use borrow.Author.Tests.{not-true, not-false}
use Rattle.lists.proofs.Test.{holds}
use Rattle.lists.proofs.Filled.{from_start}
use Rattle.answers.specs.declared.Refusal as Code
use Rattle.answers.specs.Refusal.{Weight, rule_of, Checked, need, found}
use Rattle.answers.proofs.Unmet.{need_none}
use Rattle.machine.proofs.Tested.{back, kept}
use Rattle.saved.specs.Saved.{convertible, converted, saved_refusal, conversion_outcome, MetConversion}

-- ---- words tested

-- Before word k: what is left meets the refusal that all of them meet.
pub record Passed (saved : List ℤ) (k : ℕ) : Type 0 where
  pub within : k ≤ length saved
  pub rest : saved_refusal k (drop k saved) ≡ saved_refusal 0 saved

pub start : (saved : List ℤ) → Passed saved 0
start saved = record { within = zero-le; rest = refl }

module _ (saved : List ℤ) (k : ℕ) where
  first : k < length saved
      → saved_refusal k (drop k saved) ≡ need (convertible (get_or saved k (pos 0))) (Weight k) (saved_refusal (k + 1) (drop (k + 1) saved))
  unfolding saved_refusal
  first l = rw (add-one k, drop-cons saved k (pos 0) l)

  module _ (p : Passed saved k) where
    -- t is what the test of word k answers, which it gets as it is read back; r is the refusal.
    module _ (l : k < length saved) (t : Bool) (small : mag (get_or saved k (pos 0)) < 2 ^ 63)
        (is : t ≡ convertible (back (get_or saved k (pos 0)))) where
      tested : convertible (get_or saved k (pos 0)) ≡ t
      tested = sym (ap convertible (kept (get_or saved k (pos 0)) small)) ∙ sym is

      pub refused : not t ≡ true → some (Weight k) ≡ saved_refusal 0 saved
      refused bad = rw (← p.rest, first l, tested, not-true t bad)

      pub again : not t ≡ false → Passed saved (k + 1)
      again good = record { within = omega arith; rest = sym (rw (tested, not-false t good) at (first l)) ∙ p.rest }

    pub done : length saved ≤ k → none ≡ saved_refusal 0 saved
    unfolding saved_refusal
    done l = rw (drop_of_length-le saved l) at p.rest

-- ---- words converted

-- Before word k, with those before it converted: what is left is of old, and converted and written over it makes the buffer that is asked for.
pub record Halfway (saved₀ saved : List ℤ) (k : ℕ) : Type 0 where
  pub within : k ≤ length saved
  pub long : length saved ≡ length saved₀
  pub fine : saved_refusal k (drop k saved) ≡ none
  pub rest : sets saved k (map converted (drop k saved)) ≡ map converted saved₀

pub begin : (saved : List ℤ) → saved_refusal 0 saved ≡ none → Halfway saved saved 0
begin saved fine =
    let long : length saved ≤ length (map converted saved) = omega (arith, length-map saved converted) in
    record {
      within = zero-le;
      long = refl;
      fine = fine;
      rest = from_start (map converted saved) saved (omega (arith, length-map saved converted))
          ∙ ap (λ (zs : List ℤ). map converted saved ++ zs) (drop_of_length-le saved long)
          ∙ append-nil (map converted saved);
    }

module _ (saved₀ saved : List ℤ) (k : ℕ) (h : Halfway saved₀ saved k) where
  module _ (l : k < length saved) where
    left : T (convertible (get_or saved k (pos 0))) × (saved_refusal (k + 1) (drop (k + 1) saved) ≡ none)
    left = (need_none (convertible (get_or saved k (pos 0))) (Weight k) _).0 (sym (first saved k l) ∙ h.fine)

    pub good : convertible (get_or saved k (pos 0)) ≡ true
    good = holds (convertible (get_or saved k (pos 0))) left.0

    -- z is what word k became.
    pub onward : (z : ℤ) → z ≡ converted (get_or saved k (pos 0)) → Halfway saved₀ (set saved k z) (k + 1)
    onward z is =
        let same : drop (k + 1) (set saved k z) ≡ drop (k + 1) saved = drop-set-lt (k + 1) saved k z (omega arith) in
        record {
          within = omega (arith, length-set saved k z);
          long = length-set saved k z ∙ h.long;
          fine = rw same left.1;
          rest = rw (same, add-one k, is)
              (sym (ap (λ (zs : List ℤ). sets saved k (map converted zs)) (drop-cons saved k (pos 0) l)) ∙ h.rest);
        }

  pub ended : length saved ≤ k → saved ≡ map converted saved₀
  ended l = rw (drop_of_length-le saved l) at h.rest

-- ---- what is left, by the ways out of `convert`: s is what the check answers

module _ (saved : List ℤ) (s : Checked) (is : found s ≡ saved_refusal 0 saved) where
  pub told : (r : Code.Refusal) → s ≡ Err r → (answer : Checked) → answer ≡ Err r → MetConversion (conversion_outcome saved) answer saved
  unfolding conversion_outcome
  told r e answer handed =
      let met : saved_refusal 0 saved ≡ some (rule_of r) = sym is ∙ ap found e in record { answers = rw (handed, met); words = rw met }

  pub passed : s ≡ Ok tt → saved_refusal 0 saved ≡ none
  passed e = sym is ∙ ap found e

  pub made : s ≡ Ok tt → (words : List ℤ) → words ≡ map converted saved → MetConversion (conversion_outcome saved) (Ok tt) words
  unfolding conversion_outcome
  made e words all = rw (passed e) (record { answers = refl; words = all })
