-- A request with other weights (prices), word by word: in hundredths (document 02, ask 7), or with fees moved (ask 9).
-- Rests on the words of requests and on networks with other weights.
use Rattle.std.specs.Prelude.{◌≡◌, ◌↔◌, ◌≢◌, List, [], ◌∷◌, ℕ, ◌+◌, ◌*◌, ◌<◌, ℤ, negsuc, get_or}
use Rattle.plans.specs.declared.Header.{Header}
use Rattle.plans.specs.Limits.{by_method}
use Rattle.limits.specs.Word.{weight_of}
use Rattle.limits.specs.WithinLimits.{header_in, words_in}
use Rattle.graph.specs.Walk.{Edge}
use Rattle.graph.specs.Reweighed.{Weighed, scaled, moved}
use Rattle.graph.specs.LeastBetween.{between}
use Rattle.demands.specs.Network.{edge_of}

-- An entry's word, in method 2, from u to v: -1, no edge, stands in both or in neither.
pub record EntryRepriced (f : Edge → ℤ) (u v word word' : ℕ) : Type 0 where
  pub no_edge_is : (weight_of word ≡ negsuc 0) ↔ (weight_of word' ≡ negsuc 0)
  pub weight : weight_of word ≢ negsuc 0 → weight_of word' ≡ f (between u v (weight_of word))

-- By method: each edge has the same ends and weighs f of what it was, or each entry does.
abbrev pub WordsRepriced : (f : Edge → ℤ) → Header → (words words' : List ℕ) → Type 0
WordsRepriced f h ws ws' =
    let edges = (i : ℕ) → i < h.edges → Weighed f (edge_of ws i) (edge_of ws' i) in
    let entries = (u v : ℕ) → u < h.vertices → v < h.vertices
    → EntryRepriced f u v (get_or ws (u * h.vertices + v) 0) (get_or ws' (u * h.vertices + v) 0) in
    by_method h.method ⊥ (edges ∷ entries ∷ edges ∷ edges ∷ edges ∷ [])

-- Method, vertices, edges and source are the same, and each edge weighs f of what it was. Method 5's destination may be another.
pub record Repriced (f : Edge → ℤ) (request request' : List ℕ) : Type 0 where
  pub header : header_in request' ≡ header_in request
  pub words : WordsRepriced f (header_in request) (words_in request) (words_in request')

-- Every weight a hundredfold.
abbrev pub Hundredfold : (request request' : List ℕ) → Type 0
Hundredfold = Repriced (scaled 100)

-- Every weight more by the number of its from-vertex less that of its to-vertex.
abbrev pub FeesMoved : (fee : ℕ → ℤ) → (request request' : List ℕ) → Type 0
FeesMoved fee = Repriced (moved fee)
