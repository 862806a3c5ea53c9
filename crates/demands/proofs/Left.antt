-- What a header's plan leaves of cells that intake has laid, whichever the method: the verdict, least totals and their parents.
-- Rests on the methods and on Sources.
use mathlib.Core.Path.{◌≡◌, refl, sym, ap}
use mathlib.Core.Logic.Iff
use mathlib.Core.Logic.{◌↔◌, ◌≢◌}
use mathlib.Core.Bool.{cond}
use mathlib.Core.List.{List, [], ◌∷◌}
use mathlib.Core.Option.{some}
use Prim.Native.Nat.{ℕ, zero, suc, ◌+◌, ◌-◌, ◌*◌, ◌^◌, ◌<◌, ◌≤◌}
use native.Mathlib.Omega.{arith}
use lib.IntN.{ℤ, pos, negsuc, nat_abs, ◌+ℤ◌}
use lib.ListN.{length, get_or, drop}
use lib.Signed.{◌≤ℤ◌, ◌<ℤ◌}
use Rattle.fields.specs.Fields.{bits_of}
use Rattle.machine.specs.Effect.{is_zero, cell_at}
use Rattle.machine.specs.Log.{cells_after}
use Rattle.plans.specs.declared.Header.{Header}
use Rattle.plans.specs.Limits.{far, most_weight}
use Rattle.plans.specs.Regions.{cell}
use Rattle.plans.specs.Method2 as Plan2
use Rattle.plans.specs.Plan.{Accepted, cells_of, instructions_of, plan_of, Kind, distances, parents, route, results_of, verdict_cell, published}
use Rattle.plans.proofs.Headers.{header, each_method}
use Rattle.limits.specs.Word.{destination_in}
use Rattle.graph.specs.Walk.{Edge, Network, NegativeCycle, Below}
use Rattle.graph.specs.Shortest.{Naming, Distances, Parents, Shortest}
use Rattle.graph.specs.BellmanFord.{network, numbered}
use Rattle.graph.specs.Jacobi.{Sorted}
use Rattle.graph.specs.Dijkstra.{table_network, from_vertex}
use Rattle.graph.specs.Floyd.{doubled}
use Rattle.graph.proofs.Int.{arithℤ, sum}
use Rattle.graph.proofs.Floyd.{doubled_most}
use Rattle.graph.proofs.Parents.{distances_carried, parents_carried}
use Rattle.graph.proofs.Dijkstra.{no_negative_cycle}
use Rattle.graph.proofs.Synchronous.{synchronous_carried}
use Rattle.graph.proofs.Route.{route_carried}
use Rattle.graph.proofs.SameEdges.{cycle_over, shortest_over}
use Rattle.methods.specs.Bank.{Summed, Exact}
use Rattle.methods.specs.Edges as Edges
use Rattle.methods.specs.Method1 as Method1
use Rattle.methods.specs.Method2 as Method2
use Rattle.methods.specs.Method3 as Method3
use Rattle.methods.specs.Method4 as Method4
use Rattle.methods.specs.Method5 as Method5
use Rattle.methods.proofs.Rooms.{wide}
use Rattle.methods.proofs.Sums.{summed_map}
use Rattle.methods.proofs.OverEdges.{ends_below}
use Rattle.methods.proofs.Headers.{header1, header2, header3, header4, header5}
use Rattle.demands.specs.Run.{opened_at, verdict_of}
use Rattle.demands.specs.Network.{edge_of, Entered, network_of, naming_of, every_vertex, sources_of, CycleFrom}
use Rattle.demands.specs.Besides.{besides_of}
use Rattle.demands.specs.Sums.{sum_bound}
use Rattle.demands.proofs.Sources.{only_source, only_row, any_source, vertex_at, vertices_long}
use Rattle.demands.proofs.Table.{table_of}

-- The edges, laid where a method has them.
abbrev pub Laid : (h : Header) (ws : List ℕ) (start : List ℤ) → Edges.Inputs → Type 0
Laid h ws start at = Edges.Laid at most_weight (edge_of ws) h.vertices h.edges h.source start

-- What intake supplies to the header's method.
pub record Given (h : Header) (ws : List ℕ) (start : List ℤ) : Type 0 where
  pub one : h.method ≡ 1 → Laid h ws start (Method1.places h.vertices h.edges).inputs
  pub two : h.method ≡ 2 → Method2.Laid (nat_abs far) most_weight (table_of h.vertices ws) h.vertices h.source start
  pub three : h.method ≡ 3 → Laid h ws start (Method3.places h.vertices h.edges).inputs
  pub sorted : h.method ≡ 3 → Sorted (edge_of ws) h.edges
  pub four : h.method ≡ 4 → Laid h ws start (Method4.inputs h.vertices h.edges)
  pub five : h.method ≡ 5 → Laid h ws start (Method5.places h.vertices h.edges).inputs
  pub aimed : h.method ≡ 5 → cell_at start (Method5.goal h.vertices h.edges) ≡ pos (destination_in h ws)
  pub there : h.method ≡ 5 → destination_in h ws < h.vertices
  pub same : h.method ≡ 2 → (e : Edge) → table_network (nat_abs far) h.vertices (table_of h.vertices ws) e ↔ Entered h.vertices ws e

pub record Left (h : Header) (ws : List ℕ) (start left : List ℤ) : Type 0 where
  pub cycle : (verdict_of h left ≡ 1) ↔ CycleFrom (network_of h ws) (sources_of h)
  pub no_cycle : (verdict_of h left ≡ 0) ↔ ¬ CycleFrom (network_of h ws) (sources_of h)
  pub below : Below (network_of h ws) h.vertices
  pub rows : (results_of h distances).count ≡ length (sources_of h) * h.vertices
  pub parents_row : (results_of h parents).count ≢ 0
      → (h.vertices ≤ (results_of h distances).count) × (h.vertices ≤ (results_of h parents).count)
  pub least_totals : verdict_of h left ≡ 0 → (r : ℕ) → r < length (sources_of h)
      → Distances (network_of h ws) far h.vertices (get_or (sources_of h) r 0)
      (λ v. cell_at left ((results_of h distances).first + (r * h.vertices + v)))
  pub parent_marks : verdict_of h left ≡ 0 → (results_of h parents).count ≢ 0
      → Parents (network_of h ws) (naming_of h ws) far h.vertices h.source
      (λ v. cell_at left ((results_of h distances).first + v)) (λ v. cell_at left ((results_of h parents).first + v))
  pub besides : verdict_of h left ≡ 0 → besides_of h ws (λ k i. cell_at left ((results_of h k).first + i))
  pub rest : (k : ℕ) → cells_of h ≤ k → cell_at left k ≡ cell_at start k
  pub exact : Exact (instructions_of h) start
  pub bounded : Summed (sum_bound h) (instructions_of h) start
  -- The opened word is the verdict.
  pub opened : opened_at (verdict_cell h) left ≡ published (verdict_cell h) (verdict_of h left)

-- ---- the flag

-- 0 for 0, else 1.
abbrev truth : ℤ → ℕ
truth x = cond (is_zero x) 0 1

-- What is read from a cell that holds 1 where C does, and 0 where it does not.
record Flag (x : ℤ) (C : Type 0) : Type 0 where
  set : (truth x ≡ 1) ↔ C
  unset : (truth x ≡ 0) ↔ ¬ C
  word : bits_of 64 x ≡ truth x

neither : {x : ℤ} {C : Type 0} → ((x ≡ pos 1) ↔ C) → ((x ≡ pos 0) ↔ ¬ C)
    → (x ≡ pos 0 → ⊥) → (x ≡ pos 1 → ⊥) → ⊥
neither one none p q = p (none.1 (λ c. q (one.1 c)))

flag : (x : ℤ) {C : Type 0} → ((x ≡ pos 1) ↔ C) → ((x ≡ pos 0) ↔ ¬ C) → Flag x C
unfolding bits_of
flag (pos zero) one none =
    record {
      set = (λ e. absurd (omega arith), λ c. omega (arithℤ, one.1 c));
      unset = (λ e. none.0 refl, λ f. refl);
      word = refl;
    }
flag (pos (suc zero)) one none =
    record {
      set = (λ e. one.0 refl, λ c. refl);
      unset = (λ e. absurd (omega arith), λ f. absurd (f (one.0 refl)));
      word = refl;
    }
flag (pos (suc (suc k))) one none = absurd (neither one none (λ e. omega arithℤ) (λ e. omega arithℤ))
flag (negsuc k) one none = absurd (neither one none (λ e. omega arithℤ) (λ e. omega arithℤ))

-- ---- a method with one source

-- Of a method with one source: distances and parents, one after the other from these cells on.
record OneRow (net : Network) (Names : Naming) (n source : ℕ) (left : List ℤ) (from : Kind → ℕ) : Type 0 where
  row : (r : ℕ) → r < 1 → Distances net far n (get_or (source ∷ []) r 0) (λ v. cell_at left (from distances + (r * n + v)))
  marks : Parents net Names far n source (λ v. cell_at left (from distances + v)) (λ v. cell_at left (from parents + v))

-- From shortest walks as a method has them, in its cells D and P.
one_row : (net : Network) (Names : Naming) (n source : ℕ) (left : List ℤ) (from : Kind → ℕ) → Below net n → source < n
    → (D P : ℕ → ℕ) → ((v : ℕ) → from distances + v ≡ D v) → ((v : ℕ) → from parents + v ≡ P v)
    → Shortest net Names far n source (λ v. cell_at left (D v)) (λ v. cell_at left (P v)) → OneRow net Names n source left from
one_row net Names n source left from below inside D P d p s =
    record {
      row = only_row net source far n _ (λ i. cell_at left (from distances + i)) (λ v. ap (cell_at left) (d v)) s.distances;
      marks =
          parents_carried net far n source _ _ (λ v l. ap (cell_at left) (d v)) Names _ _ below inside (λ v l. ap (cell_at left) (p v))
          s.parents;
    }

-- What a method fixes carries over to results that agree where there are any.
pub besides_carried : (h : Header) → Accepted h → (ws : List ℕ) (given given' : Kind → ℕ → ℤ)
    → ((k : Kind) (i : ℕ) → i < (results_of h k).count → given' k i ≡ given k i) → besides_of h ws given → besides_of h ws given'
unfolding besides_of results_of
besides_carried =
    each_method
    (λ h. (ws : List ℕ) (given given' : Kind → ℕ → ℤ)
    → ((k : Kind) (i : ℕ) → i < (results_of h k).count → given' k i ≡ given k i) → besides_of h ws given → besides_of h ws given')
    (λ n m source a ws given given' same f. tt)
    (λ n source a ws given given' same f. tt)
    (λ n m source a ws given given' same f. synchronous_carried (edge_of ws) m far n source _ _ _ _ (same distances) (same parents) f)
    (λ n m a ws given given' same f. tt)
    (λ n m source a ws given given' same f.
    route_carried (edge_of ws) m n source far _ _ _ _ (get_or ws m 0) _ _ (same distances) (same parents) (same route) f)

-- ---- a method over edges with one source

-- A header's rows are those of a method over edges that has its cells at these places.
record OverEdgesAt (h : Header) (ws : List ℕ) (at : Edges.Places) : Type 1 where
  net : network_of h ws ≡ network (edge_of ws) h.edges
  names : naming_of h ws ≡ numbered (edge_of ws) h.edges
  sources : sources_of h ≡ h.source ∷ []
  verdict : verdict_cell h ≡ some at.verdict
  count : cells_of h ≡ at.inputs.count
  sums : sum_bound h ≡ (λ x w. x ≢ far → (x +ℤ w) <ℤ far)
  rows : ((results_of h distances).count ≡ h.vertices) × ((results_of h parents).count ≡ h.vertices)
  dist : (v : ℕ) → (results_of h distances).first + v ≡ at.dist v
  parent : (v : ℕ) → (results_of h parents).first + v ≡ at.parent v

module _ (h : Header) (ws : List ℕ) (at : Edges.Places) (is : OverEdgesAt h ws at) {start left : List ℤ}
    (laid : Laid h ws start at.inputs)
    (o : Edges.Solved at (nat_abs far) (instructions_of h) (edge_of ws) h.vertices h.edges h.source start left) where
  abbrev net : Network
  net = network (edge_of ws) h.edges

  abbrev from : Kind → ℕ
  from k = (results_of h k).first

  below : Below net h.vertices
  below = ends_below (edge_of ws) h.vertices h.edges laid.limited

  found : Flag (cell_at left at.verdict) (CycleFrom net (h.source ∷ []))
  found = flag _ (Iff.trans o.cycle (only_source net h.source)) (Iff.trans o.none (Iff.not (only_source net h.source)))

  none : truth (cell_at left at.verdict) ≡ 0 → ¬ NegativeCycle net h.source
  none e = (Iff.not (only_source net h.source)).1 (found.unset.0 e)

  walks : truth (cell_at left at.verdict) ≡ 0 → OneRow net (numbered (edge_of ws) h.edges) h.vertices h.source left from
  walks e =
      one_row net (numbered (edge_of ws) h.edges) h.vertices h.source left from below laid.source_below at.dist at.parent
      is.dist is.parent (o.shortest (none e))

  -- With what the method fixes besides.
  over_edges : (¬ NegativeCycle net h.source → besides_of h ws (λ k i. cell_at left (from k + i))) → Left h ws start left
  unfolding verdict_of
  over_edges besides =
      record {
        cycle = rw (is.verdict, is.net, is.sources) found.set;
        no_cycle = rw (is.verdict, is.net, is.sources) found.unset;
        below = rw is.net below;
        rows = rw is.sources (omega (arith, is.rows));
        parents_row = λ ne. omega (arith, is.rows);
        least_totals = rw (is.verdict, is.net, is.sources) (λ z. (walks z).row);
        parent_marks = rw (is.verdict, is.net, is.names) (λ z ne. (walks z).marks);
        besides = rw is.verdict (λ z. besides (none z));
        rest = rw is.count o.rest;
        exact = o.exact;
        bounded = rw is.sums o.below_far;
        opened = rw is.verdict (ap (λ w. w ∷ []) found.word);
      }

-- ---- method 4

-- The bounds of its sums, in figures.
lowest : doubled most_weight 32 ≡ 2 ^ 32 * 100000000
unfolding doubled
lowest = refl

highest : Method4.high (nat_abs far) + Method4.high (nat_abs far) ≡ 2 ^ 60 - 2 ^ 21
unfolding doubled
highest = refl

module _ (n m : ℕ) (ws : List ℕ) {start left : List ℤ} (few : n ≤ 32)
    (laid : Laid (header 4 n m 0) ws start (Method4.inputs n m))
    (o : Method4.Solved (nat_abs far) most_weight (edge_of ws) n m start left) where
  abbrev all : Network
  all = network (edge_of ws) m

  anywhere : Flag (cell_at left (Method4.verdict n m)) (CycleFrom all (every_vertex n))
  anywhere = flag _ (Iff.trans o.cycle (any_source all n)) (Iff.trans o.none (Iff.not (any_source all n)))

  rows : truth (cell_at left (Method4.verdict n m)) ≡ 0 → (r : ℕ) → r < length (every_vertex n)
      → Distances all far n (get_or (every_vertex n) r 0) (λ v. cell_at left (3 * m + 0 + (r * n + v)))
  rows e r l =
      let inside : r < n = omega (arith, vertices_long n) in
      rw (vertex_at n r inside)
      (distances_carried all far n r _ _ (λ v q. let p : 3 * m + 0 + (r * n + v) ≡ Method4.entry n m (r * n + v) = omega arith in ap (cell_at left) p)
      (o.distances ((Iff.not (any_source all n)).1 (anywhere.unset.0 e)) r inside))

  -- n stages are 32 at most.
  wider : (x w : ℤ)
      → (pos 0 ≤ℤ ((x +ℤ w) +ℤ pos (doubled most_weight n))) × ((x +ℤ w) ≤ℤ pos (Method4.high (nat_abs far) + Method4.high (nat_abs far)))
      → (negsuc (2 ^ 32 * 100000000 - 1) ≤ℤ (x +ℤ w)) × ((x +ℤ w) ≤ℤ pos (2 ^ 60 - 2 ^ 21))
  wider x w (low, up) = (
    omega (arithℤ, doubled_most most_weight n 32 few, lowest, sum (x +ℤ w) (pos (doubled most_weight n))),
    omega (arithℤ, highest),
  )

  each_vertex : Left (header 4 n m 0) ws start left
  unfolding verdict_cell verdict_of network_of naming_of sources_of besides_of sum_bound results_of cells_of instructions_of
  each_vertex =
      record {
        cycle = anywhere.set;
        no_cycle = anywhere.unset;
        below = ends_below (edge_of ws) n m laid.limited;
        rows = ap (λ k. k * n) (sym (vertices_long n));
        parents_row = λ given. absurd (given refl);
        least_totals = rows;
        parent_marks = λ e given. absurd (given refl);
        besides = λ e. tt;
        rest = o.rest;
        exact = o.exact;
        bounded = summed_map _ _ wider _ start o.bounded;
        opened = ap (λ w. w ∷ []) anywhere.word;
      }

-- ---- each method

pub left : (h : Header) → Accepted h → (ws : List ℕ) (start : List ℤ) → Given h ws start
    → Left h ws start (cells_after (drop 1 (plan_of h)) start)
unfolding verdict_cell verdict_of network_of naming_of sources_of besides_of sum_bound results_of cells_of instructions_of
left =
    each_method
    (λ h. (ws : List ℕ) (start : List ℤ) → Given h ws start → Left h ws start (cells_after (drop 1 (plan_of h)) start))
    (λ n m source a ws start g.
    let h = header 1 n m source in
    let o = header1 h a start most_weight wide (edge_of ws) refl (g.one refl) in
    over_edges h ws (Method1.places n m)
    (search (refl, arith))
    (g.one refl) o (λ none. tt))
    (λ n source a ws start g.
    let net = Entered n ws in
    let cells = cell (Plan2.starts n) in
    let o = header2 (header 2 n 0 source) a start most_weight wide (table_of n ws) refl (g.two refl) in
    let same = g.same refl in
    let no_cycle : ¬ CycleFrom net (source ∷ []) =
    (Iff.not (only_source net source)).0
    (λ z. no_negative_cycle (nat_abs far) n (table_of n ws) source (cycle_over _ _ (λ e. (same e).1) source z)) in
    let below : Below net n = λ e r. (r.from_there, r.to_there) in
    let walks =
    one_row net from_vertex n source (cells_after (drop 1 (plan_of (header 2 n 0 source))) start)
    (λ k. (results_of (header 2 n 0 source) k).first) below a.source_there (λ v. cells (Plan2.D v)) (λ v. cells (Plan2.P v))
    (λ v. omega arith) (λ v. omega arith) (shortest_over _ _ same far n source _ from_vertex _ o.shortest) in
    record {
      cycle = (λ e. absurd (omega arith), λ c. absurd (no_cycle c));
      no_cycle = (λ e. no_cycle, λ f. refl);
      below = below;
      rows = omega arith;
      parents_row = λ ne. omega arith;
      least_totals = λ e. walks.row;
      parent_marks = λ e ne. walks.marks;
      besides = λ e. tt;
      rest = o.rest;
      exact = o.exact;
      bounded = o.below_far;
      opened = refl;
    })
    (λ n m source a ws start g.
    let h = header 3 n m source in
    let at = Method3.places n m in
    let end = cells_after (drop 1 (plan_of h)) start in
    let (o, passes) = header3 h a start most_weight wide (edge_of ws) refl (g.sorted refl) (g.three refl) in
    over_edges h ws at
    (search (refl, arith))
    (g.three refl) o
    (λ none.
    synchronous_carried (edge_of ws) m far n source _ _ _ _
    (λ v l. let p : (results_of h distances).first + v ≡ at.dist v = omega arith in ap (cell_at end) p)
    (λ v l. let p : (results_of h parents).first + v ≡ at.parent v = omega arith in ap (cell_at end) p) passes))
    (λ n m a ws start g.
    each_vertex n m ws a.vertices_few (g.four refl) (header4 (header 4 n m 0) a start most_weight wide (edge_of ws) refl (g.four refl)))
    (λ n m source a ws start g.
    let h = header 5 n m source in
    let at = Method5.places n m in
    let end = cells_after (drop 1 (plan_of h)) start in
    let (o, routed) = header5 h a start most_weight wide (edge_of ws) (destination_in h ws) refl (g.five refl) (g.aimed refl) (g.there refl) in
    over_edges h ws at
    (search (refl, arith))
    (g.five refl) o
    (λ none.
    route_carried (edge_of ws) m n source far _ _ _ _ (destination_in h ws) _ _
    (λ v l. let p : (results_of h distances).first + v ≡ at.dist v = omega arith in ap (cell_at end) p)
    (λ v l. let p : (results_of h parents).first + v ≡ at.parent v = omega arith in ap (cell_at end) p)
    (λ k l. let p : (results_of h route).first + k ≡ Method5.step n m k = omega arith in ap (cell_at end) p) (routed none)))
