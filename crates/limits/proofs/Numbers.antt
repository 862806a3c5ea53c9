-- What holds of each refusal that a request can meet holds of the one it meets: only a word's has a place, that of the word, and none has a number
-- that a run is told by. Rests on answers' Meets and headers' Headers.
use mathlib.Core.Path.{◌≡◌, refl}
use mathlib.Core.Logic.{inl, inr}
use mathlib.Core.Bool.{true, false}
use mathlib.Core.List.{List, [], ◌∷◌}
use mathlib.Core.Option.{none}
use Prim.Native.Nat.{ℕ, suc}
use lib.Dec.{ltb}
use lib.ListN.{length}
use Rattle.answers.specs.Refusal.{Refusal}
use Rattle.answers.specs.Refusal.{Method, Vertices, Edges, Source, Words, Cells, Log, Results, SpareBits, Weight, FromVertex, ToVertex, Unsorted, Destination, or_else}
use Rattle.answers.specs.Told.{Apart}
use Rattle.answers.proofs.Unmet.{or_else_assoc}
use Rattle.answers.proofs.Told.{Formed}
use Rattle.answers.proofs.Meets.{Meets, OfEach, none_meets, some_meets, first_meets, or_else_meets}
use Rattle.plans.specs.declared.Header.{Header}
use Rattle.plans.specs.Plan.{header_of}
use Rattle.plans.proofs.Headers.{of_row}
use Rattle.headers.specs.Refusal.{header_refusal}
use Rattle.headers.proofs.Headers.{header_meets_each}
use Rattle.limits.specs.declared.Lengths.{Lengths}
use Rattle.limits.specs.Word.{placed_words, destination_in}
use Rattle.limits.specs.Refusal.{sizes_tests, sizes_refusal, edge_tests, edge_refusal, order_tests, sorted_refusal, entry_tests, entry_refusal, word_refusal, words_refusal, last_tests, last_refusal, request_refusal}

-- Of 1 to 8, of those of a word at any place, and of 16.
abbrev OfPublic : (Refusal → Type 0) → Type 0
OfPublic P = (P Method × P Vertices × P Edges × P Source) × (P Words × P Cells × P Log × P Results)

abbrev OfWord : (Refusal → Type 0) → (place : ℕ) → Type 0
OfWord P place = P (SpareBits place) × P (FromVertex place) × P (ToVertex place) × P (Weight place) × P (Unsorted place)

abbrev OfWords : (Refusal → Type 0) → Type 0
OfWords P = (place : ℕ) → OfWord P place

module _ (P : Refusal → Type 0) where
  public_meets : OfPublic P → (h : Header) (words : ℕ) (lent : Lengths) → Meets P (or_else (header_refusal h) (sizes_refusal h words lent))
  unfolding sizes_refusal
  public_meets (header, (other, cells, log, results)) h words lent =
      or_else_meets P (header_refusal h) _ (header_meets_each P header h)
      (first_meets P (sizes_tests h words lent) (other, (cells, (log, (results, tt)))))

  word_meets : (place : ℕ) → OfWord P place → (h : Header) (before w : ℕ) → Meets P (word_refusal h place before w)
  unfolding word_refusal edge_refusal sorted_refusal entry_refusal
  word_meets place (spare, from, to, weight, order) h before w =
      let n = h.vertices in
      let edge = first_meets P (edge_tests n place w []) (spare, (from, (to, (weight, tt)))) in
      let entry = first_meets P (entry_tests place w) (spare, (weight, tt)) in
      let sorted = first_meets P (edge_tests n place w (order_tests place before w)) (spare, (from, (to, (weight, (order, tt))))) in
      of_row (Meets P) (edge_refusal n place w ∷ entry_refusal place w ∷ sorted_refusal n place before w ∷ edge_refusal n place w ∷ edge_refusal n place w ∷ [])
      (edge, (entry, (sorted, (edge, (edge, tt))))) h.method none (none_meets P)

  words_meet : OfWords P → (h : Header) (place before : ℕ) (ws : List ℕ) → Meets P (words_refusal h place before ws)
  unfolding words_refusal
  words_meet each h place before [] = none_meets P
  words_meet each h place before (w ∷ ws) =
      or_else_meets P (word_refusal h place before w) _ (word_meets place (each place) h before w) (words_meet each h (suc place) w ws)

  last_meets : P Destination → (h : Header) (ws : List ℕ) → Meets P (last_refusal h ws)
  unfolding last_refusal
  last_meets destination h ws =
      first_meets P (last_tests h ws)
      (of_row (OfEach P)
      ([] ∷ [] ∷ [] ∷ [] ∷ ((ltb (destination_in h ws) h.vertices, Destination) ∷ []) ∷ []) (tt, (tt, (tt, (tt, ((destination, tt), tt)))))
      h.method [] tt)

  request_meets : OfPublic P → OfWords P → P Destination → (request : List ℕ) (lent : Lengths) → Meets P (request_refusal request lent)
  unfolding request_refusal
  request_meets public each destination [] lent = some_meets P Method public.0.0
  request_meets public each destination (w ∷ ws) lent =
      let h = header_of w in
      rw (or_else_assoc (header_refusal h) _ _)
      (or_else_meets P _ _ (public_meets public h (length ws) lent)
      (or_else_meets P _ _ (words_meet each h 0 0 (placed_words h ws)) (last_meets destination h ws)))

-- 1 to 8 and 16 have no place; a word's refusal has the word's.
pub public_unplaced : (h : Header) (words : ℕ) (lent : Lengths) → Meets (λ r. r.placed ≡ false) (or_else (header_refusal h) (sizes_refusal h words lent))
public_unplaced = public_meets (λ r. r.placed ≡ false) ((refl, refl, refl, refl), (refl, refl, refl, refl))

pub words_placed : (h : Header) (place before : ℕ) (ws : List ℕ) → Meets (λ r. r.placed ≡ true) (words_refusal h place before ws)
words_placed = words_meet (λ r. r.placed ≡ true) (λ place. (refl, refl, refl, refl, refl))

pub last_unplaced : (h : Header) (ws : List ℕ) → Meets (λ r. r.placed ≡ false) (last_refusal h ws)
last_unplaced = last_meets (λ r. r.placed ≡ false) refl

pub word_place : (h : Header) (place before w : ℕ) → Meets (λ r. r.place ≡ place) (word_refusal h place before w)
word_place h place before w = word_meets (λ r. r.place ≡ place) place (refl, refl, refl, refl, refl) h before w

-- Each is a number alone, or a number and a place.
pub request_formed : (request : List ℕ) (lent : Lengths) → Meets Formed (request_refusal request lent)
request_formed =
    request_meets Formed
    ((inl refl, inl refl, inl refl, inl refl), (inl refl, inl refl, inl refl, inl refl))
    (λ place. (inr refl, inr refl, inr refl, inr refl, inr refl)) (inl refl)

-- None has a run's number.
pub request_apart : (request : List ℕ) (lent : Lengths) → Meets Apart (request_refusal request lent)
request_apart =
    request_meets Apart
    (((refl, refl), (refl, refl), (refl, refl), (refl, refl)), ((refl, refl), (refl, refl), (refl, refl), (refl, refl)))
    (λ place. ((refl, refl), (refl, refl), (refl, refl), (refl, refl), (refl, refl))) (refl, refl)
