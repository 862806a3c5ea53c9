-- What writing a plan answers and leaves, by the ways out of `write_plan`. Rests on the definitions alone.
use mathlib.Core.Path.{◌≡◌, refl, sym, ap, ◌∙◌}
use mathlib.Core.Option.{Option, none, some}
use mathlib.Core.List.{List, [], ◌∷◌, ◌++◌}
use Rattle.std.specs.Prelude.{Result, Ok, Err}
use Prim.Native.Nat.{ℕ, ◌<◌, ◌≤◌}
use native.Mathlib.Omega.{arith}
use lib.Dec.{leb}
use lib.ListN.{length, get_or, drop}
use borrow.Author.Tests.{le-leb, lt-leb}
use Rattle.answers.specs.declared.Refusal as Code
use Rattle.answers.specs.declared.Refusal.TheVariants as Fault
use Rattle.answers.specs.Refusal.{Refusal, Log, rule_of, need, or_else}
use Rattle.plans.specs.declared.Header.{Header}
use Rattle.plans.specs.Plan.{header_of, plan_of}
use Rattle.headers.specs.Refusal.{header_refusal}
use Rattle.planner.specs.Written.{plan_refusal, plan_words, WrittenPlan}

refused : (header buffer : List ℕ) (r : Code.Refusal) → plan_refusal header (length buffer) ≡ some (rule_of r)
    → WrittenPlan header buffer (Err r) buffer
refused header buffer r e = record { answers = rw e; leaves = rw e }

pub no_header : (header buffer : List ℕ) → length header < 1 → WrittenPlan header buffer (Err Fault.Method) buffer
unfolding plan_refusal
no_header [] buffer e = refused [] buffer Fault.Method refl
no_header (w ∷ rest) buffer e = let no : ⊥ = omega arith in absurd no

refusal_of_is : (header : List ℕ) (room : ℕ) → (length header ≡ 0 → ⊥)
    → plan_refusal header room ≡ or_else (header_refusal (header_of (get_or header 0 0))) (need (leb (length (plan_words header)) room) Log none)
unfolding plan_refusal
refusal_of_is [] room h = absurd (h refl)
refusal_of_is (w ∷ rest) room h = refl

module _ (header buffer : List ℕ) (word_there : 1 ≤ length header) (h : Header) (is : h ≡ header_of (get_or header 0 0)) where
  some_word : length header ≡ 0 → ⊥
  some_word z = omega arith

  -- The refusal of the header is handed on.
  pub bad_header : (r : Code.Refusal) → some (rule_of r) ≡ header_refusal h → (answer : Result ℕ Code.Refusal) → answer ≡ Err r
      → WrittenPlan header buffer answer buffer
  bad_header r e answer handed =
      rw handed
      (refused header buffer r
      (refusal_of_is header (length buffer) some_word
      ∙ ap (λ (o : Option Refusal). or_else o (need (leb (length (plan_words header)) (length buffer)) Log none))
      (ap header_refusal (sym is) ∙ sym e)))

  module _ (fine : none ≡ header_refusal h) where
    by_room : plan_refusal header (length buffer) ≡ need (leb (length (plan_words header)) (length buffer)) Log none
    by_room =
        refusal_of_is header (length buffer) some_word
        ∙ ap (λ (o : Option Refusal). or_else o (need (leb (length (plan_words header)) (length buffer)) Log none))
        (ap header_refusal (sym is) ∙ sym fine)

    pub too_short : length buffer < length (plan_of h) → WrittenPlan header buffer (Err Fault.Log) buffer
    too_short l =
        refused header buffer Fault.Log (by_room ∙ rw (lt-leb (length (plan_words header)) (length buffer) (rw is at l)))

    pub all_written : (size : ℕ) (after : List ℕ) → size ≡ length (plan_of h) → length (plan_of h) ≤ length buffer
        → after ≡ plan_of h ++ drop (length (plan_of h)) buffer → WrittenPlan header buffer (Ok size) after
    all_written size after e l q =
        let r : plan_refusal header (length buffer) ≡ none
        = by_room ∙ rw (le-leb (length (plan_words header)) (length buffer) (rw is at l)) in
        record { answers = rw (r, e, is); leaves = rw (r, q, is) }
