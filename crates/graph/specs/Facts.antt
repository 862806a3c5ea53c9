-- Document 01, "Yards, lanes and totals", and what the algorithms find, as facts about literal networks.
-- Rests on the definitions alone.
use Rattle.std.specs.Prelude.{◌≡◌, true, false, List, [], ◌∷◌, ℕ, ◌+◌, ◌*◌, ℤ, pos, negsuc, get_or}
use Rattle.std.proofs.Math.Option.{none, some}
use Rattle.graph.specs.Walk.{Edge, Network, Chain, total}
use Rattle.graph.specs.BellmanFord as BellmanFord
use Rattle.graph.specs.BellmanFord.{network, numbered, State, bellman_ford}
use Rattle.graph.specs.Jacobi as Jacobi
use Rattle.graph.specs.Jacobi.{jacobi}
use Rattle.graph.specs.Dijkstra.{from_vertex, turns}
use Rattle.graph.specs.Floyd.{floyd, negative, marked}
use Rattle.graph.specs.Route.{behind, last_first}
use Rattle.graph.specs.Reweighed.{scaled, moved}
use Rattle.graph.specs.LeastBetween.{LeastBetween}

abbrev pub edge_from : (from to : ℕ) (weight : ℤ) → Edge
edge_from from to weight = record { from = from; to = to; weight = weight }

-- Edge i of a list.
abbrev pub among : List Edge → (i : ℕ) → Edge
among es i = get_or es i (edge_from 0 0 (pos 0))

abbrev pub three : (i : ℕ) → Edge
three = among (edge_from 3 5 (pos 7) ∷ edge_from 5 3 (negsuc 1) ∷ edge_from 3 5 (pos 4) ∷ [])

abbrev pub net : Network
net = network three 3

-- Parents: of vertex 3 edge 1, of vertex 5 edge 2, of every other none.
abbrev pub parent : (v : ℕ) → ℤ
parent v = get_or (negsuc 0 ∷ negsuc 0 ∷ negsuc 0 ∷ pos 1 ∷ negsuc 0 ∷ pos 2 ∷ []) v (negsuc 0)

-- ---- for the algorithms, with 1,000 as FAR

-- From vertex 0 three passes are needed for vertex 3. Edges 3 and 4 tie, and so do edge 7 and, a pass later, edges 3 and 2; edge 5 has a
-- rebate and comes from vertex 4, which is not reached.
abbrev pub eight : (i : ℕ) → Edge
eight =
    among
    (edge_from 2 3 (negsuc 1)
    ∷ edge_from 1 2 (pos 1)
    ∷ edge_from 1 5 (pos 2)
    ∷ edge_from 0 1 (pos 4)
    ∷ edge_from 0 1 (pos 4)
    ∷ edge_from 4 1 (negsuc 998)
    ∷ edge_from 0 3 (pos 9)
    ∷ edge_from 0 5 (pos 6)
    ∷ [])

-- A closed walk of total -1, and one of total 0.
abbrev pub losing : (i : ℕ) → Edge
losing = among (edge_from 0 1 (pos 1) ∷ edge_from 1 0 (negsuc 1) ∷ [])

abbrev pub even : (i : ℕ) → Edge
even = among (edge_from 0 1 (pos 2) ∷ edge_from 1 0 (negsuc 1) ∷ [])

-- Distances and parents of the first six vertices.
abbrev pub distances : State → List ℤ
distances st = st.dist 0 ∷ st.dist 1 ∷ st.dist 2 ∷ st.dist 3 ∷ st.dist 4 ∷ st.dist 5 ∷ []

abbrev pub parents : State → List ℤ
parents st = st.parent 0 ∷ st.parent 1 ∷ st.parent 2 ∷ st.parent 3 ∷ st.parent 4 ∷ st.parent 5 ∷ []

-- Three vertices: 0 to 1 at 7, 0 to 2 at 3, 2 to 1 at 2.
abbrev pub entries : (u v : ℕ) → ℕ
entries u v = get_or (1000 ∷ 7 ∷ 3 ∷ 1000 ∷ 1000 ∷ 1000 ∷ 1000 ∷ 2 ∷ 1000 ∷ []) (u * 3 + v) 1000

pub record Facts : Type 0 where
  -- "A walk's total is the sum of its prices, a lane used twice counting twice; the walk of no lanes has total 0".
  pub totals : (total (three 0 ∷ three 1 ∷ three 0 ∷ []) ≡ pos 12) × (total (three 1 ∷ three 1 ∷ []) ≡ negsuc 3) × (total [] ≡ pos 0)
  -- Edges that follow each other lead from where the first begins to where the last ends; no edges lead from a vertex to itself.
  pub chains : Chain net 3 (three 0 ∷ three 1 ∷ three 2 ∷ []) 5
      × Chain net 4 [] 4
      × (¬ Chain net 3 (three 0 ∷ three 1 ∷ []) 5)
      × (¬ Chain net 5 (three 0 ∷ []) 5)
      × (¬ Chain net 3 (three 0 ∷ three 2 ∷ []) 5)
      × (¬ Chain net 0 (three 3 ∷ []) 0)
  -- "Parents are lane numbers", in method 2 "Parents are yards": the edge's own number, below m; the vertex that it comes from.
  pub names : numbered three 3 1 (three 1)
      × (¬ numbered three 3 0 (three 1))
      × (¬ numbered three 1 1 (three 1))
      × from_vertex 3 (three 0)
      × (¬ from_vertex 5 (three 0))
  -- "the parent marks followed from the destination back to the source", "last first".
  pub followed : (behind three parent 5 1 ≡ 3) × (behind three parent 5 2 ≡ 5) × (behind three parent 4 2 ≡ 4)
  pub last_first_is : last_first three (2 ∷ 1 ∷ 0 ∷ []) ≡ three 0 ∷ three 1 ∷ three 2 ∷ []
  -- "Bellman-Ford over private lanes", in place and (ask 3) by passes that read the pass before: FAR plus a rebate is no offer, and neither
  -- replaces a parent on equality.
  pub in_place : (distances (bellman_ford eight (pos 1000) 4 8 0) ≡ pos 0 ∷ pos 4 ∷ pos 5 ∷ pos 3 ∷ pos 1000 ∷ pos 6 ∷ [])
      × (parents (bellman_ford eight (pos 1000) 4 8 0) ≡ negsuc 0 ∷ pos 3 ∷ pos 1 ∷ pos 0 ∷ negsuc 0 ∷ pos 7 ∷ [])
  pub by_passes : (distances (jacobi eight (pos 1000) 4 8 0) ≡ pos 0 ∷ pos 4 ∷ pos 5 ∷ pos 3 ∷ pos 1000 ∷ pos 6 ∷ [])
      × (parents (jacobi eight (pos 1000) 4 8 0) ≡ negsuc 0 ∷ pos 3 ∷ pos 1 ∷ pos 0 ∷ negsuc 0 ∷ pos 7 ∷ [])
  -- The check after them.
  pub checked : (BellmanFord.slack eight (pos 1000) 8 (bellman_ford eight (pos 1000) 4 8 0) ≡ false)
      × (BellmanFord.slack losing (pos 1000) 2 (bellman_ford losing (pos 1000) 2 2 0) ≡ true)
      × (Jacobi.slack eight (pos 1000) 8 6 (jacobi eight (pos 1000) 4 8 0) ≡ false)
      × (Jacobi.slack losing (pos 1000) 2 2 (jacobi losing (pos 1000) 2 2 0) ≡ true)
  -- "Dijkstra over a private n by n table".
  pub dijkstra : ((turns 1000 entries 3 0 3).dist 1 ≡ 5)
      × ((turns 1000 entries 3 0 3).dist 2 ≡ 3)
      × ((turns 1000 entries 3 0 3).parent 1 ≡ pos 2)
      × ((turns 1000 entries 3 0 3).parent 2 ≡ pos 0)
  -- (Ask 8) Floyd-Warshall: 0 to 3 needs its third stage; no walk leads from 3 to 1, and none from 3 to itself but that of no edges.
  pub each_vertex : (floyd eight (pos 5000) 3 8 0 3 ≡ pos 3)
      × (floyd eight (pos 5000) 3 8 1 3 ≡ negsuc 0)
      × (floyd eight (pos 5000) 3 8 3 3 ≡ pos 0)
      × (marked (pos 1000) (floyd eight (pos 5000) 3 8) 3 1 ≡ pos 1000)
  -- "A loss circle is a closed walk of negative total": one of total 0 is none.
  pub circles : (negative 2 (floyd losing (pos 5000) 2 2) ≡ true) × (negative 2 (floyd even (pos 5000) 2 2) ≡ false)
  -- (Asks 7 and 9) Weights a hundredfold; a fee of 3 at vertex 3 and of 5 at vertex 5 moved; the least weight between two vertices.
  pub reweighed : (scaled 100 (three 0) ≡ pos 700) × (moved pos (three 0) ≡ pos 5)
  pub least : (¬ LeastBetween net 3 5 (some (pos 7))) × (¬ LeastBetween net 5 3 none)
