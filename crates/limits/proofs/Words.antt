-- Which refusal a word meets, by the ways out of `check_weight`, `check_edge`, `check_sorted`, `check_entry` and `check_word`; and words in
-- their order. Rests on the laws of plans, the machine's laws of signed numbers and answers' Unmet.
use mathlib.Core.Path.{◌≡◌, refl, sym, ◌∙◌}
use mathlib.Core.Bool.{Bool, true, false, not}
use mathlib.Core.List.{List, []}
use mathlib.Core.Option.{none, some}
use Rattle.std.specs.Prelude.{Ok, Err}
use Prim.Native.Nat.{ℕ, ◌+◌, ◌*◌, ◌^◌, ◌<◌, ◌≤◌}
use native.Mathlib.Numerals.{add-one}
use lib.Dec.{ltb, leb}
use lib.IntN.{ℤ, pos}
use lib.ListN.{length, get_or, drop, drop_of_length-le}
use lib.Signed.{lt_z, le_z, mag}
use borrow.Author.Tests.{lt-ltb, le-ltb, le-leb, lt-leb, eq-eqb, ne_eqb}
use Rattle.lists.proofs.Slices.{next}
use Rattle.answers.specs.declared.Refusal as Code
use Rattle.answers.specs.Refusal.{SpareBits, Weight, FromVertex, ToVertex, Unsorted, Destination, rule_of, Checked, need, found, or_else}
use Rattle.answers.proofs.Unmet.{first_append}
use Rattle.machine.proofs.Tested.{back, kept, not_less}
use Rattle.plans.specs.declared.Header.{Header}
use Rattle.plans.specs.Limits.{most_weight, least_weight, no_edge}
use Rattle.plans.specs.Plan as Plan
use Rattle.plans.proofs.Headers.{each_method}
use Rattle.limits.specs.Word.{placed_count, from_field, to_field, spare_of_edge, spare_of_entry, weight_of}
use Rattle.limits.specs.Refusal.{in_range, edge_tests, edge_refusal, order_tests, sorted_refusal, entry_refusal, word_refusal, words_refusal, last_refusal}

-- ---- the weight

-- v is the word's weight, as it comes from its function.
module _ (least : ℤ) (place w : ℕ) (few : mag least < 2 ^ 63) (v : ℤ) (small : mag v < 2 ^ 63) (is : v ≡ weight_of w) where
  low : (t : Bool) → lt_z (back v) (back least) ≡ t → le_z least (weight_of w) ≡ not t
  low t e = not_less (weight_of w) least t (rw (kept v small, kept least few, is) at e)

  high : (t : Bool) → lt_z (pos most_weight) (back v) ≡ t → le_z (weight_of w) (pos most_weight) ≡ not t
  high t e = not_less (pos most_weight) (weight_of w) t (rw (kept v small, is) at e)

  pub weight_low : lt_z (back v) (back least) ≡ true → some (Weight place) ≡ need (in_range least w) (Weight place) none
  unfolding in_range
  weight_low e = rw (low true e)

  module _ (fine : lt_z (back v) (back least) ≡ false) where
    pub weight_high : lt_z (pos most_weight) (back v) ≡ true → some (Weight place) ≡ need (in_range least w) (Weight place) none
    unfolding in_range
    weight_high e = rw (low false fine, high true e)

    pub weight_good : lt_z (pos most_weight) (back v) ≡ false → none ≡ need (in_range least w) (Weight place) none
    unfolding in_range
    weight_good e = rw (low false fine, high false e)

-- ---- one word

-- x, y and z are fields of an edge's word, as they come from their function, and s is what the check of its weight answers.
module _ (n place w x : ℕ) (spare : x ≡ spare_of_edge w) where
  pub spare_edge : (x ≡ 0 → ⊥) → some (SpareBits place) ≡ edge_refusal n place w
  unfolding edge_refusal
  spare_edge e = rw (← spare, ne_eqb x 0 e)

  module _ (no_spare : x ≡ 0) (y : ℕ) (from : y ≡ from_field w) where
    pub from_high : n ≤ y → some (FromVertex place) ≡ edge_refusal n place w
    unfolding edge_refusal
    from_high e = rw (← spare, eq-eqb x 0 no_spare, ← from, le-ltb y n e)

    module _ (from_low : y < n) (z : ℕ) (to : z ≡ to_field w) where
      pub to_high : n ≤ z → some (ToVertex place) ≡ edge_refusal n place w
      unfolding edge_refusal
      to_high e = rw (← spare, eq-eqb x 0 no_spare, ← from, lt-ltb y n from_low, ← to, le-ltb z n e)

      pub edge_by_weight : z < n → (s : Checked) → found s ≡ need (in_range least_weight w) (Weight place) none → found s ≡ edge_refusal n place w
      unfolding edge_refusal
      edge_by_weight e s is = rw (← spare, eq-eqb x 0 no_spare, ← from, lt-ltb y n from_low, ← to, lt-ltb z n e, is)

-- s is what the check of the edge answers, x and y are its to-vertex and that of the edge before.
module _ (n place before w : ℕ) (s : Checked) (edge : found s ≡ edge_refusal n place w) where
  edge_first : sorted_refusal n place before w
      ≡ or_else (edge_refusal n place w) (need (leb (to_field before) (to_field w)) (Unsorted place) none)
  unfolding sorted_refusal edge_refusal
  edge_first = first_append (edge_tests n place w []) (order_tests place before w)

  pub edge_bad : (r : Code.Refusal) → s ≡ Err r → some (rule_of r) ≡ sorted_refusal n place before w
  edge_bad r e = rw (edge_first, ← edge, e)

  module _ (fine : s ≡ Ok tt) (x y : ℕ) (to : x ≡ to_field w) (to_before : y ≡ to_field before) where
    pub out_of_order : x < y → some (Unsorted place) ≡ sorted_refusal n place before w
    out_of_order l = rw (edge_first, ← edge, fine, ← to, ← to_before, lt-leb y x l)

    pub in_place : y ≤ x → none ≡ sorted_refusal n place before w
    in_place l = rw (edge_first, ← edge, fine, ← to, ← to_before, le-leb y x l)

-- x is an entry's spare bits.
module _ (place w x : ℕ) (spare : x ≡ spare_of_entry w) where
  pub spare_entry : (x ≡ 0 → ⊥) → some (SpareBits place) ≡ entry_refusal place w
  unfolding entry_refusal
  spare_entry e = rw (← spare, ne_eqb x 0 e)

  pub entry_by_weight : x ≡ 0 → (s : Checked) → found s ≡ need (in_range no_edge w) (Weight place) none → found s ≡ entry_refusal place w
  unfolding entry_refusal
  entry_by_weight e s is = rw (← spare, eq-eqb x 0 e, is)

-- By the method: s is what its check answers.
module _ (h : Header) (place before w : ℕ) (s : Checked) where
  pub an_entry : h.method ≡ 2 → found s ≡ entry_refusal place w → found s ≡ word_refusal h place before w
  unfolding word_refusal
  an_entry two is = rw (two, is)

  pub a_sorted_edge : h.method ≡ 3 → found s ≡ sorted_refusal h.vertices place before w → found s ≡ word_refusal h place before w
  unfolding word_refusal
  a_sorted_edge three is = rw (three, is)

  pub an_edge : Plan.Accepted h → (h.method ≡ 2 → ⊥) → (h.method ≡ 3 → ⊥)
      → found s ≡ edge_refusal h.vertices place w → found s ≡ word_refusal h place before w
  unfolding word_refusal
  an_edge a two three is =
      is
      ∙ each_method
      (λ h. (h.method ≡ 2 → ⊥) → (h.method ≡ 3 → ⊥) → edge_refusal h.vertices place w ≡ word_refusal h place before w)
      (λ n m source a two three. refl)
      (λ n source a two three. absurd (two refl))
      (λ n m source a two three. absurd (three refl))
      (λ n m a two three. refl)
      (λ n m source a two three. refl)
      h a two three

-- ---- how many words have a place, and what comes after them, by the ways out of `placed_count` and `check_last`

module _ (h : Header) where
  pub placed_entries : h.method ≡ 2 → h.vertices * h.vertices ≡ placed_count h.method h.vertices h.edges
  placed_entries two = rw two

  pub placed_edges : Plan.Accepted h → (h.method ≡ 2 → ⊥) → h.edges ≡ placed_count h.method h.vertices h.edges
  placed_edges =
      each_method (λ h. (h.method ≡ 2 → ⊥) → h.edges ≡ placed_count h.method h.vertices h.edges)
      (λ n m source a two. refl) (λ n source a two. absurd (two refl)) (λ n m source a two. refl) (λ n m a two. refl) (λ n m source a two. refl) h

  pub no_destination : Plan.Accepted h → (h.method ≡ 5 → ⊥) → (ws : List ℕ) → none ≡ last_refusal h ws
  unfolding last_refusal
  no_destination =
      each_method (λ h. (h.method ≡ 5 → ⊥) → (ws : List ℕ) → none ≡ last_refusal h ws)
      (λ n m source a five ws. refl) (λ n source a five ws. refl) (λ n m source a five ws. refl) (λ n m a five ws. refl)
      (λ n m source a five ws. absurd (five refl)) h

  module _ (ws : List ℕ) (five : h.method ≡ 5) where
    by_destination : need (ltb (get_or ws h.edges 0) h.vertices) Destination none ≡ last_refusal h ws
    unfolding last_refusal
    by_destination = rw five

    pub destination_high : h.vertices ≤ get_or ws h.edges 0 → some Destination ≡ last_refusal h ws
    destination_high l = rw (← by_destination, le-ltb (get_or ws h.edges 0) h.vertices l)

    pub destination_there : get_or ws h.edges 0 < h.vertices → none ≡ last_refusal h ws
    destination_there l = rw (← by_destination, lt-ltb (get_or ws h.edges 0) h.vertices l)

-- ---- the words of a request in their order

-- Before the word at a place: what is left, after the word before it, meets the refusal that all of them meet.
abbrev pub Passed : (h : Header) (words : List ℕ) (before place : ℕ) → Type 0
Passed h words before place = words_refusal h place before (drop place words) ≡ words_refusal h 0 0 words

module _ (h : Header) (words : List ℕ) (before place : ℕ) (p : Passed h words before place) where
  module _ (l : place < length words) where
    first : words_refusal h 0 0 words
        ≡ or_else (word_refusal h place before (get_or words place 0)) (words_refusal h (place + 1) (get_or words place 0) (drop (place + 1) words))
    unfolding words_refusal
    first = sym p ∙ rw (next words place 0 l, add-one place)

    -- s is what the check of the word answers.
    module _ (s : Checked) (is : found s ≡ word_refusal h place before (get_or words place 0)) where
      pub refused : (r : Code.Refusal) → s ≡ Err r → some (rule_of r) ≡ words_refusal h 0 0 words
      refused r e = rw (first, ← is, e)

      pub again : s ≡ Ok tt → Passed h words (get_or words place 0) (place + 1)
      again e = rw (first, ← is, e)

  pub done : length words ≤ place → none ≡ words_refusal h 0 0 words
  unfolding words_refusal
  done l = rw (drop_of_length-le words l) at p
