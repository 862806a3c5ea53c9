-- The network that a request describes (document 01, "Yards, lanes and totals" and "Request words"), by its words alone: neither intake nor FAR
-- is named; and what its results speak of. Rests on request words and on graph.
use Rattle.std.specs.Prelude.{◌≡◌, ◌≢◌, List, [], ◌∷◌, ℕ, ◌+◌, ◌*◌, ◌<◌, negsuc, length, get_or}
use Rattle.plans.specs.declared.Header.{Header}
use Rattle.plans.specs.Limits.{by_method}
use Rattle.plans.specs.Blocks.{flat}
use Rattle.limits.specs.Word.{from_field, to_field, weight_of}
use Rattle.limits.specs.WithinLimits.{header_in, words_in}
use Rattle.graph.specs.Walk.{Edge, Network, NegativeCycle}
use Rattle.graph.specs.Shortest.{Naming}
use Rattle.graph.specs.BellmanFord.{network, numbered}
use Rattle.graph.specs.Dijkstra.{from_vertex}

-- Methods 1, 3, 4 and 5: the edge of each word.
abbrev pub edge_of : (words : List ℕ) (i : ℕ) → Edge
edge_of ws i = record { from = from_field (get_or ws i 0); to = to_field (get_or ws i 0); weight = weight_of (get_or ws i 0) }

-- Method 2: an edge from u to v is there exactly where the word at u n + v is not -1, with that word's weight.
pub record Entered (n : ℕ) (words : List ℕ) (e : Edge) : Type 0 where
  pub from_there : e.from < n
  pub to_there : e.to < n
  pub entered : weight_of (get_or words (e.from * n + e.to) 0) ≢ negsuc 0
  pub weighs : e.weight ≡ weight_of (get_or words (e.from * n + e.to) 0)

unfoldable pub network_of : Header → (words : List ℕ) → Network
network_of h ws =
    let edges = network (edge_of ws) h.edges in
    by_method h.method (λ e. ⊥) (edges ∷ Entered h.vertices ws ∷ edges ∷ edges ∷ edges ∷ [])

-- What a parent mark names: in methods 1, 3 and 5 an edge by its number, in method 2 an edge by its from-vertex; method 4 has none.
unfoldable pub naming_of : Header → (words : List ℕ) → Naming
naming_of h ws =
    let by_number_is = numbered (edge_of ws) h.edges in
    by_method h.method (λ k e. ⊥) (by_number_is ∷ from_vertex ∷ by_number_is ∷ (λ k e. ⊥) ∷ by_number_is ∷ [])

-- Both, of a request.
abbrev pub network_in : (request : List ℕ) → Network
network_in request = network_of (header_in request) (words_in request)

abbrev pub naming_in : (request : List ℕ) → Naming
naming_in request = naming_of (header_in request) (words_in request)

-- All n vertices, upward.
abbrev pub every_vertex : (n : ℕ) → List ℕ
every_vertex n = flat n (λ v. v ∷ [])

-- The sources that a method's distances are from, in order: a row of n distances for each. In method 4 they are all vertices.
unfoldable pub sources_of : Header → List ℕ
sources_of h = let one = h.source ∷ [] in by_method h.method [] (one ∷ one ∷ one ∷ every_vertex h.vertices ∷ one ∷ [])

-- A walk from one of them leads onto a closed walk of negative total.
pub record CycleFrom (net : Network) (sources : List ℕ) : Type 0 where
  pub row : ℕ
  pub there : row < length sources
  pub cycle : NegativeCycle net (get_or sources row 0)
