-- What a header asks for, by the ways out of `sizes_needed`; and that it is just what a request of this header needs: buffers of the lengths
-- told are enough, and a shorter one is refused with 6, 7 or 8. Rests on Order and WithinLimits.
use mathlib.Core.Path.{◌≡◌, refl, sym, ap, ◌∙◌}
use mathlib.Core.Logic.{◌↔◌}
use mathlib.Core.Bool.{Bool}
use mathlib.Core.List.{List, [], ◌∷◌}
use mathlib.Core.Option.{Option, none, some}
use Prim.Native.Nat.{ℕ, ◌≤◌}
use native.Mathlib.Omega.{arith}
use lib.Dec.{leb, le→leb}
use lib.ListN.{length, get_or}
use borrow.Author.Tests.{eq-eqb}
use Rattle.answers.specs.Refusal.{Refusal}
use Rattle.answers.specs.Refusal.{Method, first_of, or_else}
use Rattle.answers.specs.Told.{Told, refused}
use Rattle.answers.proofs.Unmet.{first_none}
use Rattle.plans.specs.declared.Header.{Header}
use Rattle.plans.specs.Plan.{word_count_of, Kind, distances, parents, route}
use Rattle.plans.proofs.EachKind.{each_kind, each_kind_is}
use Rattle.headers.specs.Refusal.{header_refusal}
use Rattle.limits.specs.declared.Lengths.{Lengths}
use Rattle.limits.specs.Refusal.{room_for, asked_of, length_tests, sizes_refusal, words_refusal, last_refusal, request_refusal}
use Rattle.limits.specs.Sizes.{asking, asked_by, sizes_told}
use Rattle.limits.specs.WithinLimits.{header_in, words_in, placed_in, WithinLimits}
use Rattle.limits.proofs.Sizes.{Sized, sizes_none}
use Rattle.limits.proofs.Order.{in_order}
use Rattle.limits.proofs.WithinLimits.{public_none, all_none, counted_in, cells_in, log_in_lent, results_in, within}

-- ---- the ways out

pub no_header : (header : List ℕ) → length header ≡ 0 → refused Method ≡ sizes_told header
unfolding sizes_told
no_header [] e = refl
no_header (w ∷ rest) e = let no : ⊥ = omega arith in absurd no

asked : (header : List ℕ) → (length header ≡ 0 → ⊥) → sizes_told header ≡ asked_by (header_refusal (header_in header)) (header_in header)
unfolding sizes_told
asked [] n = absurd (n refl)
asked (w ∷ rest) n = refl

module _ (header : List ℕ) (some_word : length header ≡ 0 → ⊥) (h : Header) (is : h ≡ header_in header) where
  pub header_refused : (r : Refusal) → some r ≡ header_refusal h → refused r ≡ sizes_told header
  header_refused r e = rw (asked header some_word, ← is, ← e)

  pub header_asks : none ≡ header_refusal h → (l : Lengths) → l ≡ asked_of h → asking l ≡ sizes_told header
  header_asks e l a = rw (asked header some_word, ← is, ← e, a)

-- ---- what is told is what a request needs

module _ (request : List ℕ) (lent : Lengths) (w : WithinLimits request lent) where
  -- A request that runs in whatever buffers has a header word, and neither header nor words meet a refusal.
  unmet : (length request ≡ 0 → ⊥)
      × (header_refusal (header_in request) ≡ none)
      × (words_refusal (header_in request) 0 0 (placed_in request) ≡ none)
      × (last_refusal (header_in request) (words_in request) ≡ none)
  unmet =
      let (some_word, header, _) = (public_none request lent).0 w.public in
      let (_, _, words, last) = (all_none request lent some_word).0 ((within request lent).1 w) in
      (some_word, header, words, last)

  -- So it is told sizes.
  pub told_in : sizes_told request ≡ asking (asked_of (header_in request))
  told_in = let (some_word, header, _, _) = unmet in asked request some_word ∙ rw header

  -- Namely these.
  numbers : (l : Lengths) → sizes_told request ≡ asking l → asked_of (header_in request) ≡ l
  numbers l told =
      let e : asking (asked_of (header_in request)) ≡ asking l = sym told_in ∙ told in
      let value : ℕ → Told → ℕ = λ i t. get_or t.values i 0 in
      λ i.
      record {
        cells = ap (value 0) e i;
        log = ap (value 1) e i;
        distances = ap (value 2) e i;
        parents = ap (value 3) e i;
        route = ap (value 4) e i;
      }

alone : (o : Option Refusal) → or_else o none ≡ o
alone none = refl
alone (some r) = refl

module _ (request : List ℕ) (needed : Lengths) (told : sizes_told request ≡ asking needed) (lent : Lengths) where
  -- A request that runs in buffers of the lengths told meets, in others, 6, 7 or 8 for one that is shorter, and nothing else.
  pub by_length : WithinLimits request needed
      → request_refusal request lent
      ≡ first_of (length_tests needed lent)
  unfolding sizes_refusal
  by_length w =
      let (some_word, header, words, last) = unmet request needed w in
      let count = eq-eqb _ (word_count_of (header_in request)) (counted_in _ _ w) in
      rw (← numbers request needed w needed told) (in_order request lent some_word ∙ rw (header, words, last, count) (alone _))

  -- It runs in lent buffers exactly where it runs in those and no lent one is shorter.
  pub enough : WithinLimits request lent
      ↔ (WithinLimits request needed
      × (needed.cells ≤ lent.cells)
      × (needed.log ≤ lent.log)
      × ((k : Kind) → room_for needed k ≤ room_for lent k))
  enough = (
    λ w.
        let h = header_in request in
        let (some_word, header, words, last) = unmet request lent w in
        let sized : Sized h _ (asked_of h) =
        record { counted = counted_in _ _ w; cells = omega arith; log = omega arith; results = each_kind _ (omega arith) (omega arith) (omega arith) } in
        let runs = (within request (asked_of h)).0 ((all_none request (asked_of h) some_word).1 (header, (sizes_none h _ _).1 sized, words, last)) in
        rw (← numbers request lent w needed told) (
          runs,
          cells_in _ _ w,
          log_in_lent _ _ w,
          each_kind _ (results_in _ _ w distances) (results_in _ _ w parents) (results_in _ _ w route),
        ),
    λ (w, cells, log, results).
        let long : Kind → Bool = λ k. leb (room_for needed k) (room_for lent k) in
        (within request lent).0
        (by_length w
        ∙ (first_none (length_tests needed lent)).1 (
          le→leb needed.cells lent.cells cells,
          (
            le→leb needed.log lent.log log,
            ((each_kind_is long).1 (λ k. le→leb (room_for needed k) (room_for lent k) (results k)), tt),
          ),
        )),
  )
