-- A request meets no refusal exactly where it is within the limits; what the code's definitions make of these; and how large its fields are.
-- Rests on Limits, Sizes, Words, Order and headers' Headers.
use mathlib.Core.Path.{◌≡◌, refl, sym, ◌∙◌}
use mathlib.Core.Logic.{◌↔◌, ◌⊎◌}
use mathlib.Core.List.{List, [], ◌∷◌}
use mathlib.Core.Option.{none, some-ne-none}
use Prim.Native.Nat.{ℕ, zero, suc, ◌-◌, ◌*◌, ◌<◌, ◌≤◌}
use native.Mathlib.Nat.{le_of_suc-le-suc, not-suc-le-zero}
use native.Mathlib.Omega.{arith}
use lib.Dec.{T, leb→le}
use lib.IntN.{ℤ, pos, negsuc, nat_abs}
use lib.ListN.{length, get_or}
use lib.Seq.{length-take-le, get_or-take}
use lib.Signed.{◌≤ℤ◌}
use Rattle.answers.specs.Refusal.{Method, or_else}
use Rattle.answers.proofs.Unmet.{or_else_none}
use Rattle.plans.specs.declared.Header.{Header}
use Rattle.plans.specs.Limits.{is_in, most_weight, least_weight}
use Rattle.plans.specs.Plan.{Accepted, word_count_of, cells_of, Kind, results_of}
use Rattle.plans.proofs.Headers.{each_method}
use Rattle.headers.specs.Refusal.{header_refusal}
use Rattle.headers.proofs.Headers.{accepted}
use Rattle.limits.specs.declared.Lengths.{Lengths}
use Rattle.limits.specs.Word.{placed_count, destination_in, from_field, to_field, weight_of}
use Rattle.limits.specs.Refusal.{log_length_of, room_for, sizes_refusal, word_refusal, words_refusal, last_refusal, request_refusal}
use Rattle.limits.specs.WithinLimits.{header_in, words_in, placed_in, AllKept, public_limits, edge_limits, order_limits, entry_limits, word_limits, last_of, WithinLimits}
use Rattle.limits.proofs.Sizes.{Sized, sizes_none}
use Rattle.limits.proofs.Words.{placed_edges}
use Rattle.limits.proofs.Order.{placed_few, no_word, in_order}
use Rattle.limits.proofs.Limits.{public_agrees, word_agrees, last_agrees}

-- ---- the words

-- All words, after one before them.
abbrev Good : Header → (before : ℕ) → List ℕ → Type 0
Good h before ws = (i : ℕ) → i < length ws → AllKept (word_limits h.method h.vertices (get_or (before ∷ ws) i 0) (get_or ws i 0))

pub words_good : (h : Header) → Accepted h → (place before : ℕ) (ws : List ℕ) → words_refusal h place before ws ≡ none → Good h before ws
unfolding words_refusal
words_good h a place before [] e i l = absurd (not-suc-le-zero l)
words_good h a place before (w ∷ ws) e zero l =
    (word_agrees h a place before w).kept.0 ((or_else_none (word_refusal h place before w) (words_refusal h (suc place) w ws)).0 e).0
words_good h a place before (w ∷ ws) e (suc i) l =
    words_good h a (suc place) w ws
    ((or_else_none (word_refusal h place before w) (words_refusal h (suc place) w ws)).0 e).1 i (le_of_suc-le-suc l)

pub good_words : (h : Header) → Accepted h → (place before : ℕ) (ws : List ℕ) → Good h before ws → words_refusal h place before ws ≡ none
unfolding words_refusal
good_words h a place before [] g = refl
good_words h a place before (w ∷ ws) g =
    (or_else_none (word_refusal h place before w) (words_refusal h (suc place) w ws)).1
    ((word_agrees h a place before w).kept.1 (g 0 (omega arith)), good_words h a (suc place) w ws (λ i l. g (suc i) (omega arith)))

-- ---- the request

module _ (request : List ℕ) (lent : Lengths) where
  abbrev h : Header
  h = header_in request

  abbrev count : ℕ
  count = length (words_in request)

  -- What is public keeps its limits exactly where there is a header word and neither header nor sizes meet a refusal.
  pub public_none : AllKept (public_limits request lent)
      ↔ ((length request ≡ 0 → ⊥) × (header_refusal h ≡ none) × (sizes_refusal h count lent ≡ none))
  public_none =
      let both = or_else_none (header_refusal h) (sizes_refusal h count lent) in (
        λ (some_word, rest). let (header, sizes) = both.0 ((public_agrees h count lent).kept.1 rest) in (omega arith, header, sizes),
        λ (some_word, header, sizes). (omega arith, (public_agrees h count lent).kept.0 (both.1 (header, sizes))),
      )

  -- Where it has a header word.
  pub all_none : (length request ≡ 0 → ⊥)
      → (request_refusal request lent ≡ none)
      ↔ ((header_refusal h ≡ none)
      × (sizes_refusal h count lent ≡ none)
      × (words_refusal h 0 0 (placed_in request) ≡ none)
      × (last_refusal h (words_in request) ≡ none))
  all_none n =
      let words = words_refusal h 0 0 (placed_in request) in
      let last = last_refusal h (words_in request) in
      let all = in_order request lent n in
      let outer = or_else_none (header_refusal h) (or_else (sizes_refusal h count lent) (or_else words last)) in
      let middle = or_else_none (sizes_refusal h count lent) (or_else words last) in
      let inner = or_else_none words last in (
        λ e. let (a, p) = outer.0 (sym all ∙ e) in let (b, q) = middle.0 p in let (c, d) = inner.0 q in (a, b, c, d),
        λ p. all ∙ outer.1 (p.0, middle.1 (p.1, inner.1 (p.2, p.3))),
      )

  pub within : (request_refusal request lent ≡ none) ↔ WithinLimits request lent
  within = (
    λ e.
        let some_word : length request ≡ 0 → ⊥ = λ z. some-ne-none Method (no_word request lent z ∙ e) in
        let (header, sizes, words, last) = (all_none some_word).0 e in
        let a = accepted h (sym header) in
        record {
          public = public_none.1 (some_word, header, sizes);
          words = words_good h a 0 0 (placed_in request) words;
          last = (last_agrees h a (words_in request)).kept.0 last;
        },
    λ w.
        let (some_word, header, sizes) = public_none.0 w.public in
        let a = accepted h (sym header) in
        (all_none some_word).1 (
          header,
          sizes,
          good_words h a 0 0 (placed_in request) w.words,
          (last_agrees h a (words_in request)).kept.1 w.last,
        ),
  )

  -- ---- what a request within the limits has, by the definitions that the code's contracts cite

  module _ (w : WithinLimits request lent) where
    sized : Sized h count lent
    sized = (sizes_none h count lent).0 (public_none.0 w.public).2

    pub accepted_in : Accepted h
    accepted_in = accepted h (sym (public_none.0 w.public).1)

    pub counted_in : count ≡ word_count_of h
    counted_in = sized.counted

    pub cells_in : cells_of h ≤ lent.cells
    cells_in = sized.cells

    pub log_in_lent : log_length_of h ≤ lent.log
    log_in_lent = sized.log

    pub results_in : (k : Kind) → (results_of h k).count ≤ room_for lent k
    results_in = sized.results

-- ---- how large the fields are

either_way : (z : ℤ) → least_weight ≤ℤ z → z ≤ℤ pos most_weight → nat_abs z ≤ most_weight
either_way (pos n) a b = leb→le n most_weight b.le
either_way (negsuc n) a b = omega (arith, leb→le n (most_weight - 1) a.le)

-- An edge's ends and weight.
pub record EdgeWithin (n word : ℕ) : Type 0 where
  pub from_below : from_field word < n
  pub to_below : to_field word < n
  pub weight_most : nat_abs (weight_of word) ≤ most_weight

edge_within : (n word : ℕ) (more : List (ℕ × Type 0)) → AllKept (edge_limits n word more) → EdgeWithin n word
edge_within n word more (_, (from, (to, (weight, _)))) =
    record { from_below = from; to_below = to; weight_most = either_way (weight_of word) weight.0 weight.1 }

-- A method over edges: the words that have a place are edges'.
abbrev pub OverEdges : (method : ℕ) → Type 0
OverEdges method = T (is_in (1 ∷ 3 ∷ 4 ∷ 5 ∷ []) method)

-- By the method, whatever comes before a word.
as_edge : (h : Header) → Accepted h → OverEdges h.method → (before word : ℕ)
    → AllKept (word_limits h.method h.vertices before word) → EdgeWithin h.vertices word
as_edge =
    each_method
    (λ h. OverEdges h.method → (before word : ℕ)
    → AllKept (word_limits h.method h.vertices before word) → EdgeWithin h.vertices word)
    (λ n m source a over before word. edge_within n word [])
    (λ n source a over. absurd over)
    (λ n m source a over before word. edge_within n word (order_limits before word))
    (λ n m a over before word. edge_within n word [])
    (λ n m source a over before word. edge_within n word [])

module _ (method n before word : ℕ) (kept : AllKept (word_limits method n before word)) where
  as_sorted : method ≡ 3 → to_field before ≤ to_field word
  as_sorted three =
      let all : AllKept (edge_limits n word (order_limits before word)) = rw three at kept in
      let (_, (_, (_, (_, (order, _))))) = all in order

  as_entry : method ≡ 2 → (weight_of word ≡ negsuc 0) ⊎ ((pos 0 ≤ℤ weight_of word) × (weight_of word ≤ℤ pos most_weight))
  as_entry two =
      let all : AllKept (entry_limits word) = rw two at kept in
      let (_, (weight, _)) = all in weight

module _ (request : List ℕ) (lent : Lengths) (w : WithinLimits request lent) where
  abbrev header : Header
  header = header_in request

  -- Method 5: the destination.
  pub destination_in_is : header.method ≡ 5 → destination_in header (words_in request) < header.vertices
  destination_in_is five =
      let kept : AllKept (last_of 5 header.vertices (destination_in header (words_in request))) = rw five at w.last in
      kept.0

  module _ (i : ℕ) where
    abbrev word : ℕ
    word = get_or (words_in request) i 0

    -- The word at a place is that of the request, and keeps its limits.
    module _ (there : i < placed_count header.method header.vertices header.edges) where
      placed_word : get_or (placed_in request) i 0 ≡ word
      placed_word = get_or-take _ (words_in request) i 0 there

      kept_at : AllKept (word_limits header.method header.vertices (get_or (0 ∷ placed_in request) i 0) word)
      kept_at =
          let count = placed_count header.method header.vertices header.edges in
          let all : length (placed_in request) ≡ count =
          length-take-le count (words_in request) (omega (arith, counted_in _ _ w, placed_few header (accepted_in _ _ w))) in
          rw placed_word at (w.words i (omega (arith, all)))

    -- A method over edges: word i is an edge's.
    pub edge_in : OverEdges header.method → i < header.edges → EdgeWithin header.vertices word
    edge_in over l =
        let a = accepted_in _ _ w in
        as_edge header a over _ word (kept_at (rw (← placed_edges header a (λ two. rw two at over)) l))

    -- Method 2: word i is an entry's.
    pub entry_in : header.method ≡ 2 → i < header.vertices * header.vertices
        → (weight_of word ≡ negsuc 0) ⊎ ((pos 0 ≤ℤ weight_of word) × (weight_of word ≤ℤ pos most_weight))
    entry_in two l = as_entry _ _ _ word (kept_at (rw two l)) two

  -- Method 3: the next one's to-vertex is not below it.
  pub sorted_in : (i : ℕ) → header.method ≡ 3 → suc i < header.edges → to_field (word i) ≤ to_field (word (suc i))
  sorted_in i three l =
      rw (placed_word i (rw three (omega arith))) at (as_sorted _ _ _ (word (suc i)) (kept_at (suc i) (rw three l)) three)
