-- A request is refused for a word, by a number, exactly where that is its first word that breaks a limit and the number is that of the first limit
-- broken; and without a place exactly for a limit that is public, or for the destination's. Rests on Agreed, WithinLimits, Order and Numbers.
use mathlib.Core.Path.{◌≡◌, refl, sym, ap, ◌∙◌}
use mathlib.Core.Logic.{◌↔◌, ◌⊎◌, inl, inr, ⊎_elim}
use mathlib.Core.Bool.{true, false, true≢false}
use mathlib.Core.List.{List, [], ◌∷◌, ◌++◌}
use mathlib.Core.Option.{Option, none, some, some-ne-none, some-injective}
use Prim.Native.Nat.{ℕ, zero, suc, ◌+◌, ◌<◌, ◌≤◌}
use native.Mathlib.Omega.{arith}
use lib.ListN.{length, get_or}
use Rattle.answers.specs.Refusal.{Refusal}
use Rattle.answers.specs.Refusal.{plain, placed, Method, or_else}
use Rattle.answers.proofs.Unmet.{or_else_none, or_else_assoc}
use Rattle.answers.proofs.Meets.{Meets}
use Rattle.plans.specs.declared.Header.{Header}
use Rattle.plans.specs.Plan.{Accepted}
use Rattle.headers.specs.Refusal.{header_refusal}
use Rattle.headers.proofs.Headers.{accepted}
use Rattle.limits.specs.declared.Lengths.{Lengths}
use Rattle.limits.specs.Refusal.{sizes_refusal, word_refusal, words_refusal, last_refusal, request_refusal}
use Rattle.limits.specs.WithinLimits.{header_in, words_in, placed_in, AllKept, FirstBroken, header_limits, sizes_limits, public_limits, WithinLimits, BrokenAt, BrokenLast}
use Rattle.limits.proofs.Order.{no_word, in_order}
use Rattle.limits.proofs.Limits.{public_agrees, word_agrees, last_agrees}
use Rattle.limits.proofs.WithinLimits.{words_good, good_words, public_none, within}
use Rattle.limits.proofs.Numbers.{public_unplaced, words_placed, last_unplaced, word_place, request_formed}

-- ---- words in their order

-- Of words, the first of which is at `base` and comes after u: the one at `place` meets r, and none before it meets any. k counts from the first.
record First (h : Header) (base u : ℕ) (ws : List ℕ) (r : Refusal) : Type 0 where
  k : ℕ
  there : k < length ws
  met : (place : ℕ) → place ≡ base + k → word_refusal h place (get_or (u ∷ ws) k 0) (get_or ws k 0) ≡ some r
  before : (j place : ℕ) → j < k → place ≡ base + j → word_refusal h place (get_or (u ∷ ws) j 0) (get_or ws j 0) ≡ none

module _ (h : Header) (base u w : ℕ) (ws : List ℕ) (r : Refusal) where
  here : word_refusal h base u w ≡ some r → First h base u (w ∷ ws) r
  here e =
      record {
        k = 0;
        there = omega arith;
        met = λ place i. let s : place ≡ base = omega arith in rw s e;
        before = λ j place l i. let no : ⊥ = omega arith in absurd no;
      }

  module _ (e : word_refusal h base u w ≡ none) (f : First h (suc base) w ws r) where
    earlier : (j place : ℕ) → j < suc f.k → place ≡ base + j → word_refusal h place (get_or (u ∷ w ∷ ws) j 0) (get_or (w ∷ ws) j 0) ≡ none
    earlier zero place l i = let s : place ≡ base = omega arith in rw s e
    earlier (suc j) place l i = f.before j place (omega arith) (omega arith)

    later : First h base u (w ∷ ws) r
    later =
        record {
          k = suc f.k;
          there = omega arith;
          met = λ place i. f.met place (omega arith);
          before = earlier;
        }

first_at : (h : Header) (base u w : ℕ) (ws : List ℕ) (r : Refusal) (o : Option Refusal) → word_refusal h base u w ≡ o
    → or_else o (words_refusal h (suc base) w ws) ≡ some r
    → (words_refusal h (suc base) w ws ≡ some r → First h (suc base) w ws r) → First h base u (w ∷ ws) r
first_at h base u w ws r none i e rest = later h base u w ws r i (rest e)
first_at h base u w ws r (some q) i e rest = here h base u w ws r (i ∙ e)

first_from : (h : Header) (base u : ℕ) (ws : List ℕ) (r : Refusal) → words_refusal h base u ws ≡ some r → First h base u ws r
unfolding words_refusal
first_from h base u [] r e = absurd (some-ne-none r (sym e))
first_from h base u (w ∷ ws) r e = first_at h base u w ws r (word_refusal h base u w) refl e (first_from h (suc base) w ws r)

met_at : (h : Header) (base u : ℕ) (ws : List ℕ) (r : Refusal) (k place : ℕ) → place ≡ base + k → k < length ws
    → word_refusal h place (get_or (u ∷ ws) k 0) (get_or ws k 0) ≡ some r
    → ((j place : ℕ) → j < k → place ≡ base + j → word_refusal h place (get_or (u ∷ ws) j 0) (get_or ws j 0) ≡ none)
    → words_refusal h base u ws ≡ some r
unfolding words_refusal
met_at h base u [] r k place i l e before = let no : ⊥ = omega arith in absurd no
met_at h base u (w ∷ ws) r zero place i l e before = let s : base ≡ place = omega arith in rw (s, e)
met_at h base u (w ∷ ws) r (suc k) place i l e before =
    rw (before 0 base (omega arith) (omega arith))
    (met_at h (suc base) w ws r k place (omega arith) (omega arith) e (λ j p b q. before (suc j) p (omega arith) (omega arith)))

first_met : (h : Header) (base u : ℕ) (ws : List ℕ) (r : Refusal) → First h base u ws r → words_refusal h base u ws ≡ some r
first_met h base u ws r f = met_at h base u ws r f.k (base + f.k) refl f.there (f.met (base + f.k) refl) f.before

-- ---- the request

-- Of two checks, the one with places and the other without, each refusal is the one's or the other's.
module _ (k : ℕ) where
  of_placed : (a b : Option Refusal) (place : ℕ) → Meets (λ r. r.placed ≡ false) b → or_else a b ≡ some (placed k place) → a ≡ some (placed k place)
  of_placed none b place m e = absurd (true≢false (m.holds (placed k place) e))
  of_placed (some q) b place m e = e

  past_plain : (a b : Option Refusal) (place : ℕ) → Meets (λ r. r.placed ≡ false) a → or_else a b ≡ some (placed k place)
      → (a ≡ none) × (b ≡ some (placed k place))
  past_plain none b place m e = (refl, e)
  past_plain (some q) b place m e = absurd (true≢false (m.holds (placed k place) e))

  past_placed : (a b : Option Refusal) → Meets (λ r. r.placed ≡ true) a → or_else a b ≡ some (plain k) → (a ≡ none) × (b ≡ some (plain k))
  past_placed none b m e = (refl, e)
  past_placed (some q) b m e = absurd (true≢false (sym (m.holds (plain k) e)))

  either : (a b : Option Refusal) → or_else a b ≡ some (plain k) → (a ≡ some (plain k)) ⊎ ((a ≡ none) × (b ≡ some (plain k)))
  either none b e = inr (refl, e)
  either (some q) b e = inl e

module _ (request : List ℕ) (lent : Lengths) where
  abbrev h : Header
  h = header_in request

  abbrev ws : List ℕ
  ws = placed_in request

  abbrev count : ℕ
  count = length (words_in request)

  abbrev last : Option Refusal
  last = last_refusal h (words_in request)

  abbrev public : Option Refusal
  public = or_else (header_refusal h) (sizes_refusal h count lent)

  in_three : (length request ≡ 0 → ⊥) → request_refusal request lent ≡ or_else public (or_else (words_refusal h 0 0 ws) last)
  in_three some_word = in_order request lent some_word ∙ or_else_assoc (header_refusal h) _ _

  -- What is public meets none: the header is accepted.
  public_fine : (length request ≡ 0 → ⊥) → public ≡ none → AllKept (public_limits request lent) × Accepted h
  public_fine some_word met =
      let (header, sizes) = (or_else_none (header_refusal h) (sizes_refusal h count lent)).0 met in
      ((public_none request lent).1 (some_word, header, sizes), accepted h (sym header))

  -- With a header word.
  by_public : (length request ≡ 0 → ⊥) → (number : ℕ)
      → (request_refusal request lent ≡ some (plain number))
      ↔ (FirstBroken (header_limits h.method h.vertices h.edges h.source ++ sizes_limits h.method h.vertices h.edges count lent) number
      ⊎ BrokenLast request lent number)
  by_public some_word number =
      let agrees = (public_agrees h count lent).broken number in (
        λ e.
            ⊎_elim (λ (p : public ≡ some (plain number)). inl (agrees.0 p))
            (λ (p : (public ≡ none) × (or_else (words_refusal h 0 0 ws) last ≡ some (plain number))).
            let (kept, a) = public_fine some_word p.0 in
            let (fine, met) = past_placed number (words_refusal h 0 0 ws) last (words_placed h 0 0 ws) p.1 in
            inr
            (record {
              public = kept;
              words = words_good h a 0 0 ws fine;
              broken = ((last_agrees h a (words_in request)).broken number).0 met;
            }))
            (either number public _ (sym (in_three some_word) ∙ e)),
        ⊎_elim (λ b. in_three some_word ∙ rw (agrees.1 b))
            (λ (b : BrokenLast request lent number).
            let (_, header, sizes) = (public_none request lent).0 b.public in
            let a = accepted h (sym header) in
            in_three some_word
            ∙ rw (header, sizes, good_words h a 0 0 ws b.words) (((last_agrees h a (words_in request)).broken number).1 b.broken)),
      )

  module _ (number place : ℕ) where
    told_word : request_refusal request lent ≡ some (placed number place) → BrokenAt request lent place number
    told_word e =
        let some_word : length request ≡ 0 → ⊥ =
        λ z. true≢false (sym (ap (λ r. r.placed) (some-injective Method (placed number place) (no_word request lent z ∙ e)))) in
        let (met, later) = past_plain number public _ place (public_unplaced h count lent) (sym (in_three some_word) ∙ e) in
        let words = of_placed number (words_refusal h 0 0 ws) last place (last_unplaced h (words_in request)) later in
        let (kept, a) = public_fine some_word met in
        let f = first_from h 0 0 ws (placed number place) words in
        let at : place ≡ f.k = (word_place h f.k (get_or (0 ∷ ws) f.k 0) (get_or ws f.k 0)).holds (placed number place) (f.met f.k (omega arith)) in
        record {
          public = kept;
          words_before = λ i l. (word_agrees h a i (get_or (0 ∷ ws) i 0) (get_or ws i 0)).kept.0 (f.before i i (omega arith) (omega arith));
          there = omega arith;
          broken = ((word_agrees h a place (get_or (0 ∷ ws) place 0) (get_or ws place 0)).broken number).0 (rw (sym at) at (f.met place (omega arith)));
        }

    refused_word_is : BrokenAt request lent place number → request_refusal request lent ≡ some (placed number place)
    refused_word_is w =
        let (some_word, header, sizes) = (public_none request lent).0 w.public in
        let a = accepted h (sym header) in
        let first : First h 0 0 ws (placed number place) =
        record {
          k = place;
          there = w.there;
          met = λ p i. let s : p ≡ place = omega arith in rw s (((word_agrees h a place (get_or (0 ∷ ws) place 0) (get_or ws place 0)).broken number).1 w.broken);
          before = λ j p l i. let s : p ≡ j = omega arith in rw s ((word_agrees h a j (get_or (0 ∷ ws) j 0) (get_or ws j 0)).kept.1 (w.words_before j l));
        } in
        in_three some_word ∙ rw (header, sizes, first_met h 0 0 ws (placed number place) first)

    -- With a place: a word's.
    pub word_refused : (request_refusal request lent ≡ some (placed number place)) ↔ BrokenAt request lent place number
    word_refused = (told_word, refused_word_is)

-- Without a place: 1 to 8, the first of them for a missing header word, too, and 16.
module _ (number : ℕ) (rest last : Type 0) where
  missing : (last → 1 ≤ 0) → (some Method ≡ some (plain number)) ↔ ((((number ≡ 1) × ¬ (1 ≤ 0)) ⊎ ((1 ≤ 0) × rest)) ⊎ last)
  missing none_last = (
    λ e. inl (inl (sym (ap (λ r. r.number) (some-injective Method (plain number) e)), λ l. omega arith)),
    ⊎_elim
        (⊎_elim (λ (f : (number ≡ 1) × ¬ (1 ≤ 0)). rw f.0) (λ (r : (1 ≤ 0) × rest). let no : ⊥ = omega (arith, r.0) in absurd no))
        (λ (b : last). let no : ⊥ = omega (arith, none_last b) in absurd no),
  )

  present : (count : ℕ) (met : Type 0) → 1 ≤ count → met ↔ (rest ⊎ last)
      → met ↔ ((((number ≡ 1) × ¬ (1 ≤ count)) ⊎ ((1 ≤ count) × rest)) ⊎ last)
  present count met some_word same = (
    λ e. ⊎_elim (λ (r : rest). inl (inr (some_word, r))) (λ (b : last). inr b) (same.0 e),
    ⊎_elim
        (⊎_elim (λ (f : (number ≡ 1) × ¬ (1 ≤ count)). absurd (f.1 some_word)) (λ (r : (1 ≤ count) × rest). same.1 (inl r.1)))
        (λ (b : last). same.1 (inr b)),
  )

pub plain_refused : (request : List ℕ) (lent : Lengths) (number : ℕ)
    → (request_refusal request lent ≡ some (plain number)) ↔ (FirstBroken (public_limits request lent) number ⊎ BrokenLast request lent number)
unfolding request_refusal
plain_refused [] lent number = missing number _ (BrokenLast [] lent number) (λ b. b.public.0)
plain_refused (w ∷ ws) lent number =
    present number _ (BrokenLast (w ∷ ws) lent number) (length (w ∷ ws)) _ (omega arith)
    (by_public (w ∷ ws) lent (λ z. omega (arith, z)) number)

-- Nothing else is met.
abbrev Settled : (request : List ℕ) (lent : Lengths) → Type 0
Settled request lent =
    WithinLimits request lent
    ⊎ ((number : ℕ) × FirstBroken (public_limits request lent) number)
    ⊎ ((place : ℕ) × (number : ℕ) × BrokenAt request lent place number)
    ⊎ ((number : ℕ) × BrokenLast request lent number)

settled_by : (request : List ℕ) (lent : Lengths) (met : Option Refusal) → request_refusal request lent ≡ met → Settled request lent
settled_by request lent none e = inl ((within request lent).0 e)
settled_by request lent (some r) e =
    ⊎_elim
    (λ (is : r ≡ plain r.number).
    ⊎_elim (λ (b : FirstBroken (public_limits request lent) r.number). inr (inl (r.number, b)))
    (λ (b : BrokenLast request lent r.number). inr (inr (inr (r.number, b))))
    ((plain_refused request lent r.number).0 (e ∙ ap some is)))
    (λ (is : r ≡ placed r.number r.place).
    inr (inr (inl (r.place, r.number, (word_refused request lent r.number r.place).0 (e ∙ ap some is)))))
    ((request_formed request lent).holds r e)

pub settled : (request : List ℕ) (lent : Lengths) → Settled request lent
settled request lent = settled_by request lent (request_refusal request lent) refl
