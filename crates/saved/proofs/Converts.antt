-- A conversion does what specs/Converts says. Rests on the definitions.
use mathlib.Core.Path.{◌≡◌, refl, sym, ap, ◌∙◌}
use mathlib.Core.Logic.{◌↔◌, ◌⊎◌, inl, inr}
use mathlib.Core.Bool.{true, false, and-eq-true_iff, true≢false}
use mathlib.Core.List.{List, [], ◌∷◌, map}
use mathlib.Core.Option.{none, some, some-injective}
use Prim.Native.Nat.{ℕ, zero, suc, ◌+◌, ◌-◌, ◌<◌}
use native.Mathlib.Nat.{zero-add}
use native.Mathlib.Omega.{arith}
use lib.Dec.{ltb}
use lib.IntN.{ℤ, pos, negsuc}
use lib.ListN.{length, get_or, length-map, get_or-map}
use lib.Signed.{le_z, le_z_yes}
use borrow.Author.Tests.{ltb-true, ltb-false}
use Rattle.lists.proofs.Test.{by_test, holds}
use Rattle.answers.specs.Refusal.{Weight}
use Rattle.answers.specs.Told.{Told}
use Rattle.machine.specs.Effect.{eq_z}
use Rattle.machine.proofs.Tested.{equal}
use Rattle.saved.specs.Saved.{old_far, old_most, convertible, converted, saved_refusal, ConversionOutcome, conversion_outcome}
use Rattle.saved.specs.Converts.{OfOld, AllOfOld, LowestAt, Converts}

-- ---- one word

of_old : (z : ℤ) → (convertible z ≡ true) ↔ OfOld z
unfolding convertible
of_old z =
    by_test (eq_z z old_far)
    (λ e. (λ t. inl ((equal z old_far).0 e), λ o. rw e))
    (λ e. (
      λ t.
          let (low, high) = (and-eq-true_iff (le_z (negsuc (old_most - 1)) z) (le_z z (pos old_most))).0 (rw e at t) in
          inr (le_z_yes (rw low tt), le_z_yes (rw high tt)),
      λ o. rw e (elim o [
        | inl q ↦ absurd (true≢false (sym ((equal z old_far).1 q) ∙ e))
        | inr p ↦ rw (holds (le_z (negsuc (old_most - 1)) z) p.0.le, holds (le_z z (pos old_most)) p.1.le)
      ]),
    ))

bad_word : (z : ℤ) → convertible z ≡ false → ¬ OfOld z
bad_word z e o = true≢false (sym ((of_old z).1 o) ∙ e)

-- ---- words in their order

-- One more in front: of the first k + 1 each is of old where it is and the k after it are.
in_front : (z : ℤ) (zs : List ℤ) (k : ℕ) → OfOld z → ((i : ℕ) → i < k → OfOld (get_or zs i (pos 0)))
    → (i : ℕ) → i < suc k → OfOld (get_or (z ∷ zs) i (pos 0))
in_front z zs k here all zero l = here
in_front z zs k here all (suc i) l = all i (omega arith)

-- All are of old and none is refused; or one is the lowest that is not, and is refused. The first word is at `place`.
scan : (place : ℕ) (zs : List ℤ)
    → (AllOfOld zs × (saved_refusal place zs ≡ none)) ⊎ ((k : ℕ) × LowestAt zs k × (saved_refusal place zs ≡ some (Weight (place + k))))
unfolding saved_refusal
scan place [] = inl (λ i l. absurd (omega arith), refl)
scan place (z ∷ zs) =
    by_test (convertible z)
    (λ e.
    let here = (of_old z).0 e in
    rw e (elim (scan (suc place) zs) [
      | inl p ↦ inl (in_front z zs (length zs) here p.0, p.1)
      | inr (k, low, met) ↦
          inr (
            suc k,
            record { there = omega (arith, low.there); lower = in_front z zs k here low.lower; outside = low.outside },
            met ∙ ap (λ (x : ℕ). some (Weight x)) (omega arith),
          )
    ]))
    (λ e.
    let low : LowestAt (z ∷ zs) 0 = record { there = omega arith; lower = λ i l. absurd (omega arith); outside = bad_word z e } in
    rw e (inr (0, low, ap (λ (x : ℕ). some (Weight x)) (omega arith))))

-- There is one lowest place.
one_lowest : (zs : List ℤ) (a b : ℕ) → LowestAt zs a → LowestAt zs b → a ≡ b
one_lowest zs a b p q =
    by_test (ltb a b)
    (λ e. absurd (p.outside (q.lower a (ltb-true a b e))))
    (λ e. by_test (ltb b a) (λ f. absurd (q.outside (p.lower b (ltb-true b a f)))) (λ f. omega (arith, ltb-false a b e, ltb-false b a f)))

-- ---- the buffer

module _ (saved : List ℤ) where
  abbrev Done : Type 0
  Done = conversion_outcome saved ≡ record { answer = record { number = 0; place = none; values = [] }; saved = map converted saved }

  abbrev Eleven : (place : ℕ) → Type 0
  Eleven place = conversion_outcome saved ≡ record { answer = record { number = 11; place = some place; values = [] }; saved = saved }

  ways : (AllOfOld saved × Done) ⊎ ((k : ℕ) × LowestAt saved k × Eleven k)
  unfolding conversion_outcome
  ways = elim (scan 0 saved) [
    | inl (all, met) ↦ inl (all, rw met)
    | inr (k, low, met) ↦ inr (k, low, rw met (ap (λ (x : ℕ). record { answer = record { number = 11; place = some x; values = [] }; saved = saved }) (zero-add k)))
  ]

  all_done : AllOfOld saved → Done
  all_done all = elim ways [ inl p ↦ p.1 | inr (k, low, met) ↦ absurd (low.outside (all k low.there)) ]

  word : AllOfOld saved → (i : ℕ) → get_or (conversion_outcome saved).saved i (pos 0) ≡ converted (get_or saved i (pos 0))
  unfolding converted
  word all i = rw (all_done all) (get_or-map converted saved i (pos 0))

  pub converts : Converts saved
  unfolding converted
  converts =
      record {
        converts = (
          λ e. elim ways [ inl p ↦ p.0 | inr (k, low, met) ↦ let no : ⊥ = omega (arith, ap (λ (t : Told). t.number) (sym e ∙ ap (λ (l : ConversionOutcome). l.answer) met)) in absurd no ],
          λ all. ap (λ (l : ConversionOutcome). l.answer) (all_done all),
        );
        mark = λ all i l e. word all i ∙ rw ((equal (get_or saved i (pos 0)) old_far).1 e);
        distance = λ all i l ne.
            word all i ∙ by_test (eq_z (get_or saved i (pos 0)) old_far) (λ e. absurd (ne ((equal (get_or saved i (pos 0)) old_far).0 e))) (λ e. rw e);
        refuses = λ place. (
          λ e. elim ways [
            | inl p ↦ let no : ⊥ = omega (arith, ap (λ (l : ConversionOutcome). l.answer.number) (sym e ∙ p.1)) in absurd no
            | inr (k, low, met) ↦ let q : some k ≡ some place = ap (λ (l : ConversionOutcome). l.answer.place) (sym met ∙ e) in rw (some-injective k place q) at low
          ],
          λ low. elim ways [
            | inl p ↦ absurd (low.outside (p.0 place low.there))
            | inr (k, low', met) ↦ rw (one_lowest saved place k low low') met
          ],
        );
        settled = elim ways [ inl p ↦ inl p.0 | inr (k, low, met) ↦ inr (k, low) ];
        long = elim ways [ inl p ↦ rw p.1 (length-map saved converted) | inr (k, low, met) ↦ rw met ];
      }
