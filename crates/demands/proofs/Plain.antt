-- Demand 2 in the request's own numbers, of every run without a negative cycle. Rests on the theorems and on graph's Tight.
use mathlib.Core.Path.{◌≡◌, refl, sym, ap, ◌∙◌, subst}
use mathlib.Core.Logic.{◌≢◌, inl, inr}
use mathlib.Core.List.{List, [], ◌∷◌}
use Prim.Native.Nat.{ℕ, zero, suc, ◌+◌, ◌*◌, ◌<◌}
use native.Mathlib.Omega.{arith}
use lib.IntN.{ℤ, pos, negsuc, ◌+ℤ◌}
use lib.ListN.{get_or}
use Rattle.plans.specs.Limits.{far}
use Rattle.plans.specs.declared.Header.{Header}
use Rattle.plans.specs.Plan.{distances, parents, results_of}
use Rattle.plans.proofs.Headers.{source_below}
use Rattle.limits.specs.Word.{weight_of}
use Rattle.limits.specs.WithinLimits.{header_in, words_in, OneOf}
use Rattle.graph.specs.Walk.{Edge, Network, Chain, total, Below}
use Rattle.graph.specs.Shortest.{Naming, Leads, there, back, Shortest}
use Rattle.graph.specs.BellmanFord.{network, numbered}
use Rattle.graph.specs.Dijkstra.{from_vertex}
use Rattle.graph.specs.Route.{origin, behind, last_first, RouteTo}
use Rattle.graph.proofs.Walk.{total_snoc}
use Rattle.graph.proofs.Distances as Distances
use Rattle.graph.proofs.Route.{chain_last}
use Rattle.graph.proofs.Tight as Tight
use Rattle.demands.specs.Run.{Lent}
use Rattle.demands.specs.Network.{edge_of, Entered, network_of, naming_of}
use Rattle.demands.specs.Demands.{RanOn, verdict_told, result_of}
use Rattle.demands.specs.Plain.{steps_back, lane_before, yard_before, LanesAddUp, TableAddsUp, LastFirst, prices_of, RouteAddsUp, AddsUp}
use Rattle.demands.proofs.Ran.{allowed, leaves}
use Rattle.demands.proofs.Theorems.{one_source, route_shown}

-- ---- parents followed back

-- One step and k more.
first : (before : ℕ → ℕ) (v k : ℕ) → steps_back before v (suc k) ≡ steps_back before (before v) k
first before v zero = refl
first before v (suc k) = ap before (first before v k)

-- Where a mark leads to the vertex that its edge begins at, marks that lead to the source arrive there.
arrive : {net : Network} {Names : Naming} {s : ℕ} {parent : ℕ → ℤ} (before : ℕ → (mark : ℤ) → ℕ)
    → ((k : ℕ) (e : Edge) → Names k e → before e.to (pos k) ≡ e.from) → {v : ℕ} → Leads net Names s parent v
    → (k : ℕ) × (steps_back (λ u. before u (parent u)) v k ≡ s)
arrive before begins there = (0, refl)
arrive {parent = parent} before begins (back k e real named marked r) =
    let q = arrive before begins r in
    let step : ℕ → ℕ = λ u. before u (parent u) in
    let begun : step e.to ≡ e.from = ap (before e.to) marked ∙ begins k e named in
    (suc q.0, first step e.to q.0 ∙ ap (λ (u : ℕ). steps_back step u q.0) begun ∙ q.1)

-- ---- lanes

module _ (ws : List ℕ) (n m s : ℕ) (dist parent : ℕ → ℤ) (below : Below (network (edge_of ws) m) n) (inside : s < n)
    (h : Shortest (network (edge_of ws) m) (numbered (edge_of ws) m) far n s dist parent) where
  pub lanes : LanesAddUp ws n m s dist parent
  lanes =
      record {
        source_zero = Distances.source_zero (network (edge_of ws) m) far n s dist h.distances inside;
        source_mark = h.parents.source_mark;
        unreached_mark = h.parents.unreached_mark;
        no_less = λ i l near. Tight.closed _ _ far n s dist parent below h (edge_of ws i) (i, l, refl) near;
        made = λ v l near ne.
            let q = Tight.made _ _ far n s dist parent below h v l near ne in
            let t =
            subst (λ (e : Edge). (e.to ≡ v) × (dist e.from ≢ far) × (dist e.from +ℤ e.weight ≡ dist v)) q.named.1
            (q.ends, q.reached, q.makes) in
            (q.mark, q.named.0, q.marked, t.0, t.1, t.2);
        home = λ v l near. arrive (lane_before ws) (λ k e named. ap (λ (x : Edge). x.from) (sym named.1)) (h.parents.leads v l near);
      }

-- ---- routes

module _ (ws : List ℕ) (m : ℕ) where
  same_origin : (v : ℕ) (mark : ℤ) → origin (edge_of ws) v mark ≡ lane_before ws v mark
  same_origin v (pos i) = refl
  same_origin v (negsuc i) = refl

  same_back : (parent : ℕ → ℤ) (z k : ℕ) → behind (edge_of ws) parent z k ≡ steps_back (λ u. lane_before ws u (parent u)) z k
  same_back parent z zero = refl
  same_back parent z (suc k) =
      same_origin _ (parent (behind (edge_of ws) parent z k)) ∙ ap (λ (u : ℕ). lane_before ws u (parent u)) (same_back parent z k)

  last_first_is : (is : List ℕ) (s z : ℕ) → Chain (network (edge_of ws) m) s (last_first (edge_of ws) is) z → LastFirst ws s z is
  last_first_is [] s z c = c
  last_first_is (i ∷ is) s z c =
      let t = chain_last (network (edge_of ws) m) (last_first (edge_of ws) is) (edge_of ws i) s z c in
      (t.2, last_first_is is s (edge_of ws i).from t.0)

  same_prices : (is : List ℕ) → total (last_first (edge_of ws) is) ≡ prices_of ws is
  same_prices [] = refl
  same_prices (i ∷ is) =
      total_snoc (last_first (edge_of ws) is) (edge_of ws i) ∙ ap (λ (x : ℤ). x +ℤ weight_of (get_or ws i 0)) (same_prices is)

  pub routes : (n s z : ℕ) (dist parent row : ℕ → ℤ) → RouteTo (edge_of ws) m far n s dist parent z row
      → RouteAddsUp ws n m s z dist parent row
  routes n s z dist parent row r =
      record {
        followed = λ k l. r.followed k l ∙ ap parent (same_back parent z k);
        padding = r.nothing;
        shown = λ near.
            let t = r.route near in (
              t.numbers,
              t.few,
              λ k l. (t.below k l, t.shows k l),
              t.pads,
              last_first_is t.numbers s z t.leads,
              sym (same_prices t.numbers) ∙ t.sums,
            );
      }

-- ---- a table

module _ (ws : List ℕ) (n s : ℕ) (dist parent : ℕ → ℤ) (below : Below (Entered n ws) n) (inside : s < n)
    (h : Shortest (Entered n ws) from_vertex far n s dist parent) where
  pub tables : TableAddsUp ws n s dist parent
  tables =
      record {
        source_zero = Distances.source_zero (Entered n ws) far n s dist h.distances inside;
        source_mark = h.parents.source_mark;
        unreached_mark = h.parents.unreached_mark;
        no_less = λ u v l r some near.
            Tight.closed _ _ far n s dist parent below h
            (record { from = u; to = v; weight = weight_of (get_or ws (u * n + v) 0) })
            (record { from_there = l; to_there = r; entered = some; weighs = refl }) near;
        made = λ v l near ne.
            let q = Tight.made _ _ far n s dist parent below h v l near ne in
            let at : ℕ → ℕ → ℤ = λ u w. weight_of (get_or ws (u * n + w) 0) in
            let same : at q.edge.from q.edge.to ≡ at q.mark v =
            ap (λ (u : ℕ). at u q.edge.to) q.named ∙ ap (at q.mark) q.ends in (
              q.mark,
              subst (λ (u : ℕ). u < n) q.named q.real.from_there,
              q.marked,
              subst (λ (x : ℤ). x ≢ negsuc 0) same q.real.entered,
              subst (λ (u : ℕ). dist u ≢ far) q.named q.reached,
              ap (λ (u : ℕ). dist u +ℤ at q.mark v) (sym q.named)
                  ∙ ap (λ (x : ℤ). dist q.edge.from +ℤ x) (sym (q.real.weighs ∙ same))
                  ∙ q.makes,
            );
        home = λ v l near. arrive yard_before (λ k e named. sym named) (h.parents.leads v l near);
      }

-- ---- requests

-- The methods whose words are lanes and whose marks are lanes' numbers.
over_lanes : (h : Header) (ws : List ℕ) → OneOf (1 ∷ 3 ∷ 5 ∷ []) h.method
    → (network_of h ws ≡ network (edge_of ws) h.edges) × (naming_of h ws ≡ numbered (edge_of ws) h.edges)
    × ((results_of h parents).count ≡ h.vertices)
unfolding network_of naming_of results_of
over_lanes h ws (inl e) = (rw e, rw e, rw e)
over_lanes h ws (inr (inl e)) = (rw e, rw e, rw e)
over_lanes h ws (inr (inr (inl e))) = (rw e, rw e, rw e)
over_lanes h ws (inr (inr (inr x3))) = elim x3 [ ]

over_table : (h : Header) (ws : List ℕ) → h.method ≡ 2
    → (network_of h ws ≡ Entered h.vertices ws) × (naming_of h ws ≡ from_vertex) × ((results_of h parents).count ≡ h.vertices)
unfolding network_of naming_of results_of
over_table h ws e = (rw e, rw e, rw e)

-- Demand 2 in the request's own numbers.
module _ (request : List ℕ) (lent : Lent) (ran : RanOn request lent) (t : verdict_told request lent ≡ 0) where
  abbrev h : Header
  h = header_in request

  abbrev ws : List ℕ
  ws = words_in request

  inside : h.source < h.vertices
  inside = source_below h (allowed request lent ran)

  shortest : (results_of h parents).count ≡ h.vertices
      → Shortest (network_of h ws) (naming_of h ws) far h.vertices h.source (result_of request lent distances) (result_of request lent parents)
  shortest e = (one_source request lent ran (λ z. omega (arith, z, e, (allowed request lent ran).vertices_some))).shortest t

  pub adds_up : AddsUp request lent
  adds_up =
      record {
        lanes = λ k.
            let q = over_lanes h ws k in
            lanes ws h.vertices h.edges h.source _ _ (rw q.0 at (leaves request lent ran).below) inside
            (rw (q.0, q.1) at (shortest q.2));
        table = λ e.
            let q = over_table h ws e in
            tables ws h.vertices h.source _ _ (rw q.0 at (leaves request lent ran).below) inside
            (rw (q.0, q.1) at (shortest q.2));
        route = λ e. routes ws h.edges h.vertices h.source _ _ _ _ (route_shown request lent ran e t);
      }
