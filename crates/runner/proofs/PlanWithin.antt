-- A foreign plan meets no refusal exactly where it is within the limits.
-- Rests on Foreign, Lowest and machine's Admitted.
use mathlib.Core.Path.{◌≡◌, refl, sym, ◌∙◌}
use mathlib.Core.Logic.{◌↔◌, ◌≢◌}
use mathlib.Core.Bool.{Bool, true, false, not, ◌||◌, true≢false}
use mathlib.Core.List.{List, [], ◌∷◌}
use mathlib.Core.Option.{none, some}
use Prim.Native.Nat.{ℕ, zero, suc, ◌+◌, ◌-◌, ◌<◌, ◌≤◌}
use native.Mathlib.Nat.{add-zero}
use native.Mathlib.Decide.{ℕ_discrete}
use native.Mathlib.Omega.{arith}
use lib.Dec.{T, ltb, leb, leb→le, lt→ltb}
use lib.ListN.{length, get_or, drop, length-drop}
use lib.Seq.{get_or-drop}
use mir.Facts.{yes_and}
use borrow.Author.Tests.{le-leb, lt-leb, leb-false, ltb-true, ltb-false, eq-eqb}
use Rattle.machine.specs.Word.{op_field, d_field, a_field, b_field, admissible_at, admissible}
use Rattle.machine.proofs.Admitted.{is_set, is_open, is_rest, op_below, spare, set_d, open_a, open_zeros, rest_in}
use Rattle.runner.specs.Runner.{bad_at, first_bad, log_size, runner_refusal}
use Rattle.runner.specs.PlanWithin.{WordAllowed, AllowedTo, PlanWithin, NotAllowedAt}
use Rattle.runner.proofs.Foreign.{none_bad, first_bad_lowest, none_met}

-- ---- one word

-- What a word's fields have to be, apart from its place.
module _ (n op d a b : ℕ) where
  d_below : T (admissible_at n op d a b) → op ≢ 7 → d < n
  d_below t n7 =
      elim (ℕ_discrete op 0) [ yes e ↦ set_d n op d a b t e | no n0 ↦ (rest_in n op d a b t n0 n7).1 ]

  a_below : T (admissible_at n op d a b) → op ≢ 0 → a < n
  a_below t n0 =
      elim (ℕ_discrete op 7) [ yes e ↦ open_a n op d a b t e | no n7 ↦ (rest_in n op d a b t n0 n7).2 ]

  admits : op ≤ 7 → (op ≡ 1 → b ≡ 0) → (op ≡ 7 → (d ≡ 0) × (b ≡ 0)) → (op ≢ 7 → d < n) → (op ≢ 0 → a < n)
      → (op ≢ 0 → op ≢ 1 → op ≢ 7 → b < n) → T (admissible_at n op d a b)
  admits l copy opens dn an bn =
      elim (ℕ_discrete op 0) [
        | yes e ↦ rw (is_set n op d a b e) (lt→ltb d n (dn (λ q. omega arith)))
        | no n0 ↦
            elim (ℕ_discrete op 7) [
              | yes e ↦
                  let z = opens e in
                  rw (is_open n op d a b e, eq-eqb d 0 z.0, eq-eqb b 0 z.1) (lt→ltb a n (an n0))
              | no n7 ↦
                  rw (is_rest n op d a b l n0 n7 copy)
                  (yes_and (ltb d n) _ (lt→ltb d n (dn n7)) (yes_and (ltb a n) _ (lt→ltb a n (an n0)) (lt→ltb b n (last n0 n7))))
            ]
      ]
    where
      last : op ≢ 0 → op ≢ 7 → b < n
      last n0 n7 = elim (ℕ_discrete op 1) [ yes e ↦ omega (arith, copy e, an n0) | no n1 ↦ bn n0 n1 n7 ]

admits_word : (n w : ℕ) (place : ℕ) → WordAllowed n place w → T (admissible n w)
admits_word n w place p =
    admits n (op_field w) (d_field w) (a_field w) (b_field w) p.known p.copy_zero p.open_zeros p.d_there p.a_there p.b_there

fine_word : (a b : Bool) → T a → b ≡ false → (not a || b) ≡ false
fine_word true b t e = e
fine_word false b t e = absurd t

not_bad : (a b : Bool) → (not a || b) ≡ false → T a × (b ≡ false)
not_bad true b e = (tt, e)
not_bad false b e = absurd (true≢false e)

word_fine : (n place w : ℕ) → (bad_at n place w ≡ false) ↔ WordAllowed n place w
word_fine n place w = (
  λ e.
      let (t, l) = not_bad (admissible n w) (leb 16777216 place) e in
      let op = op_field w in
      let d = d_field w in
      let a = a_field w in
      let b = b_field w in
      let below = op_below n op d a b t in
      record {
        known = omega arith;
        copy_zero = spare n op d a b t;
        open_zeros = open_zeros n op d a b t;
        d_there = d_below n op d a b t;
        a_there = a_below n op d a b t;
        b_there = λ n0 n1 n7. (rest_in n op d a b t n0 n7).3;
        place_there = omega (arith, leb-false 16777216 place l);
      },
  λ p. fine_word (admissible n w) (leb 16777216 place) (admits_word n w place p) (lt-leb 16777216 place p.place_there),
)

word_bad : (n place w : ℕ) → (bad_at n place w ≡ true) ↔ ¬ WordAllowed n place w
word_bad n place w = (
  λ e allowed. true≢false (sym e ∙ (word_fine n place w).1 allowed),
  λ bad. or_true (bad_at n place w) (λ e. bad ((word_fine n place w).0 e)),
)
  where
    or_true : (b : Bool) → (b ≡ false → ⊥) → b ≡ true
    or_true true other = refl
    or_true false other = absurd (other refl)

-- ---- the plan

-- No bad place from a place on; and a lowest one.
none_from : (count place : ℕ) (ws : List ℕ) → ((i : ℕ) → i < length ws → bad_at count (place + i) (get_or ws i 0) ≡ false)
    → first_bad count place ws ≡ none
unfolding first_bad
none_from count place [] f = refl
none_from count place (w ∷ ws) f =
    let here : bad_at count place w ≡ false = rw (add-zero place) at (f 0 (omega arith)) in
    rw here (none_from count (suc place) ws (λ i l. let e : suc place + i ≡ place + suc i = omega arith in rw e (f (suc i) (omega arith))))

lowest_from : (count base : ℕ) (ws : List ℕ) (k place : ℕ) → place ≡ base + k → k < length ws → bad_at count place (get_or ws k 0) ≡ true
    → ((i : ℕ) → i < k → bad_at count (base + i) (get_or ws i 0) ≡ false) → first_bad count base ws ≡ some place
unfolding first_bad
lowest_from count base [] k place is l bad f = let no : ⊥ = omega arith in absurd no
lowest_from count base (w ∷ ws) zero place is l bad f = let s : base ≡ place = omega arith in rw (s, bad)
lowest_from count base (w ∷ ws) (suc k) place is l bad f =
    let here : bad_at count base w ≡ false = rw (add-zero base) at (f 0 (omega arith)) in
    rw here
    (lowest_from count (suc base) ws k place (omega arith) (omega arith) bad
    (λ i b. let e : suc base + i ≡ base + suc i = omega arith in rw e (f (suc i) (omega arith))))

module _ (plan : List ℕ) (count : ℕ) where
  pub allowed_from : first_bad count 1 (drop 1 plan) ≡ none → AllowedTo plan count (length plan)
  allowed_from fine place l h = (word_fine count place (get_or plan place 0)).0 (none_bad plan count fine place l h)

  -- Such a plan ends before place 16,777,216.
  pub few_words : AllowedTo plan count (length plan) → length plan ≤ 16777216
  few_words allowed = by_test (ltb 16777216 (length plan)) refl
    where
      by_test : (b : Bool) → ltb 16777216 (length plan) ≡ b → length plan ≤ 16777216
      by_test true l = let last = (allowed 16777216 (omega arith) (ltb-true 16777216 (length plan) l)).place_there in omega arith
      by_test false l = ltb-false 16777216 (length plan) l

  -- The words after the header, by their places.
  not_bad_at : (end : ℕ) → AllowedTo plan count end → (i : ℕ) → 1 + i < end → bad_at count (1 + i) (get_or (drop 1 plan) i 0) ≡ false
  not_bad_at end allowed i l = rw (get_or-drop 1 plan i 0) ((word_fine count (1 + i) (get_or plan (1 + i) 0)).1 (allowed (1 + i) (omega arith) l))

  pub fine_from : AllowedTo plan count (length plan) → first_bad count 1 (drop 1 plan) ≡ none
  fine_from allowed = none_from count 1 (drop 1 plan) (λ i l. not_bad_at (length plan) allowed i (omega (arith, length-drop 1 plan)))

  pub bad_from : (place : ℕ) → NotAllowedAt plan count place → first_bad count 1 (drop 1 plan) ≡ some place
  bad_from place n =
      let at : 1 + (place - 1) ≡ place = omega (arith, n.after_header) in
      let bad = (word_bad count place (get_or plan place 0)).1 n.not_allowed in
      lowest_from count 1 (drop 1 plan) (place - 1) place (sym at) (omega (arith, n.there, length-drop 1 plan))
      (rw (get_or-drop 1 plan (place - 1) 0, at) bad) (λ i l. not_bad_at place n.words_before i (omega arith))

  pub not_allowed_at : (place : ℕ) → first_bad count 1 (drop 1 plan) ≡ some place → NotAllowedAt plan count place
  not_allowed_at place e =
      let (after_header, there, bad, fine) = first_bad_lowest plan count place e in
      record {
        after_header = after_header;
        there = there;
        words_before = λ i l h. (word_fine count i (get_or plan i 0)).0 (fine i l h);
        not_allowed = (word_bad count place (get_or plan place 0)).0 bad;
      }

  module _ (room : ℕ) where
    pub within_plan : (runner_refusal plan count room ≡ none) ↔ PlanWithin plan count room
    unfolding runner_refusal
    within_plan = (
      λ e.
          let (fine, enough) = none_met plan count room e in
          record { words_allowed = allowed_from fine; log_enough = leb→le (log_size plan) room enough },
      λ p. rw (fine_from p.words_allowed, le-leb (log_size plan) room p.log_enough),
    )
