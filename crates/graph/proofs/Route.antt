-- Marks followed back stay among the vertices; from a reached vertex they are the edges of a least walk to it, the last first, and fewer than n.
-- Rests on marks, on distances and on the pigeonhole principle.
use mathlib.Core.Path.{◌≡◌, refl, sym, ap, ◌∙◌, subst}
use mathlib.Core.Logic.{◌⊎◌, inl, inr, ◌≢◌}
use mathlib.Core.List.{List, [], ◌∷◌, ◌++◌}
use Prim.Native.Nat.{ℕ, zero, suc, ◌+◌, ◌-◌, ◌<◌, ◌≤◌}
use native.Mathlib.Omega.{arith}
use native.Mathlib.Decide.{dec_le}
use native.Mathlib.Nat.{add-zero, add-suc}
use lib.IntN.{ℤ, pos, negsuc, nat_abs, pos-ne-negsuc, ◌+ℤ◌}
use lib.ListN.{length, get_or}
use Rattle.graph.specs.Walk.{Edge, Network, Chain, total, Least, Below}
use Rattle.graph.specs.Shortest.{Leads, there, back, LastEdge, Distances, Shortest}
use Rattle.graph.specs.BellmanFord.{network, numbered}
use Rattle.graph.specs.Route.{origin, behind, shown, last_first, Route, RouteTo}
use Rattle.graph.proofs.Int.{arithℤ, sum}
use Rattle.graph.proofs.Pigeon.{pigeon}
use Rattle.graph.proofs.Walk.{total_snoc, chain_append}
use Rattle.graph.proofs.Distances.{has_walk, source_zero}
use Rattle.graph.proofs.Marks.{Mark}

-- ---- a walk's last edge

pub chain_last : (net : Network) (es : List Edge) (e : Edge) (u v : ℕ) → Chain net u (es ++ e ∷ []) v → Chain net u es e.from × net e × (e.to ≡ v)
chain_last net [] e u v c = (sym c.1, c.0, c.2)
chain_last net (x ∷ es) e u v c = let r = chain_last net es e x.to v c.2 in ((c.0, c.1, r.0), r.1, r.2)

-- ---- steps back

module _ (edge : ℕ → Edge) (parent : ℕ → ℤ) where
  -- One step and k more.
  shift : (z k : ℕ) → behind edge parent z (suc k) ≡ behind edge parent (origin edge z (parent z)) k
  shift z zero = refl
  shift z (suc k) = ap (λ (v : ℕ). origin edge v (parent v)) (shift z k)

  -- i steps and t more.
  later : (z i t : ℕ) → behind edge parent z (i + t) ≡ behind edge parent (behind edge parent z i) t
  later z i zero = ap (behind edge parent z) (add-zero i)
  later z i (suc t) = ap (behind edge parent z) (add-suc i t) ∙ ap (λ (v : ℕ). origin edge v (parent v)) (later z i t)

  -- Without a mark there is no step.
  stays : (z : ℕ) → parent z ≡ negsuc 0 → (k : ℕ) → behind edge parent z k ≡ z
  stays z e zero = refl
  stays z e (suc k) = ap (λ (v : ℕ). origin edge v (parent v)) (stays z e k) ∙ ap (origin edge z) e

  -- Where a step back from a vertex below n goes to one below n.
  stays_below : (n : ℕ) → ((v : ℕ) → v < n → origin edge v (parent v) < n) → (z : ℕ) → z < n → (k : ℕ) → behind edge parent z k < n
  stays_below n next z l zero = l
  stays_below n next z l (suc k) = next (behind edge parent z k) (stays_below n next z l k)

-- ---- with marks that are numbers of edges

module _ (edge : ℕ → Edge) (m n : ℕ) (begins : (i : ℕ) → i < m → (edge i).from < n) (parent : ℕ → ℤ) (marked : (v : ℕ) → Mark m (parent v)) where
  pub behind_below : (z : ℕ) → z < n → (k : ℕ) → behind edge parent z k < n
  behind_below =
      stays_below edge parent n
      (λ v (l : v < n). elim (marked v) [ inl e ↦ rw e l | inr r ↦ rw r.2 (begins r.0 r.1) ])

-- Parents that are the same below n show the same, where they are followed among the vertices below n.
module _ (edge : ℕ → Edge) (n : ℕ) (parent parent' : ℕ → ℤ) (same : (v : ℕ) → v < n → parent' v ≡ parent v) (z : ℕ)
    (inside : (k : ℕ) → behind edge parent z k < n) where
  behind_same : (k : ℕ) → behind edge parent' z k ≡ behind edge parent z k
  behind_same zero = refl
  behind_same (suc k) =
      let v = behind edge parent z k in
      ap (λ (u : ℕ). origin edge u (parent' u)) (behind_same k) ∙ ap (origin edge v) (same v (inside k))

  pub shown_same : (k : ℕ) → shown edge parent' z k ≡ shown edge parent z k
  shown_same k = ap parent' (behind_same k) ∙ same (behind edge parent z k) (inside k)

-- ---- with parents of shortest walks

module _ (edge : ℕ → Edge) (m n s : ℕ) (far : ℤ) (dist parent : ℕ → ℤ) (below : Below (network edge m) n) (inside : s < n)
    (h : Shortest (network edge m) (numbered edge m) far n s dist parent) where
  abbrev net : Network
  net = network edge m

  -- The mark k of v: edge k comes to v, and costs just the difference.
  record Step (v k : ℕ) : Type 0 where
    number : k < m
    ends : (edge k).to ≡ v
    begins : (edge k).from < n
    tight : dist (edge k).from +ℤ (edge k).weight ≡ dist v

  step : (v k : ℕ) → v < n → parent v ≡ pos k → Step v k
  step v k l e =
      record {
        number = number;
        ends = c.2;
        begins = from_inside;
        tight =
            let r = h.distances.reached (edge k).from from_inside from_reached in
            omega (
              arithℤ,
              r.1.least t.front c.0,
              t.least.sums,
              t.least.least (r.0 ++ edge k ∷ []) (chain_append net r.0 (edge k ∷ []) s (edge k).from v r.1.leads (c.1, refl, c.2)),
              r.1.sums,
              ap (λ (x : Edge). total (t.front ++ x ∷ [])) is,
              total_snoc t.front (edge k),
              total_snoc r.0 (edge k),
              sum (total t.front) (edge k).weight,
              sum (total r.0) (edge k).weight,
              sum (dist (edge k).from) (edge k).weight,
            );
      }
    where
      unmarked : parent v ≢ negsuc 0
      unmarked q = pos-ne-negsuc k 0 (sym e ∙ q)

      near : dist v ≢ far
      near q = unmarked (h.parents.unreached_mark v l q)

      t : LastEdge net (numbered edge m) s dist parent v
      t = h.parents.last_edge v l near (λ q. unmarked (ap parent q ∙ h.parents.source_mark))

      same : t.mark ≡ k
      same = ap nat_abs (sym t.marked ∙ e)

      is : t.edge ≡ edge k
      is = t.named.1 ∙ ap edge same

      number : k < m
      number = subst (λ (x : ℕ). x < m) same t.named.0

      c : Chain net s t.front (edge k).from × net (edge k) × ((edge k).to ≡ v)
      c = chain_last net t.front (edge k) s v (subst (λ (x : Edge). Chain net s (t.front ++ x ∷ []) v) is t.least.leads)

      from_inside : (edge k).from < n
      from_inside = (below (edge k) c.1).0

      from_reached : dist (edge k).from ≢ far
      from_reached = has_walk net far n s dist h.distances (edge k).from from_inside (t.front, c.0)

  -- The marks from v: the numbers of edges, the last first, that lead from the source to v with total dist v.
  record Trace (v : ℕ) : Type 0 where
    numbers : List ℕ
    number : (k : ℕ) → k < length numbers → get_or numbers k 0 < m
    shows : (k : ℕ) → k < length numbers → shown edge parent v k ≡ pos (get_or numbers k 0)
    home : behind edge parent v (length numbers) ≡ s
    leads : Chain net s (last_first edge numbers) v
    sums : total (last_first edge numbers) ≡ dist v

  longer : (v k : ℕ) → v < n → parent v ≡ pos k → Trace (edge k).from → Trace v
  longer v k l e t =
      record {
        numbers = k ∷ t.numbers;
        number = number;
        shows = shows;
        home = first (length t.numbers) ∙ t.home;
        leads = chain_append net (last_first edge t.numbers) (edge k ∷ []) s (edge k).from v t.leads ((k, p.number, refl), refl, p.ends);
        sums = total_snoc (last_first edge t.numbers) (edge k) ∙ ap (λ (z : ℤ). z +ℤ (edge k).weight) t.sums ∙ p.tight;
      }
    where
      p : Step v k
      p = step v k l e

      first : (i : ℕ) → behind edge parent v (suc i) ≡ behind edge parent (edge k).from i
      first i = shift edge parent v i ∙ ap (λ (x : ℤ). behind edge parent (origin edge v x) i) e

      number : (i : ℕ) → i < suc (length t.numbers) → get_or (k ∷ t.numbers) i 0 < m
      number zero l = p.number
      number (suc i) l = t.number i (omega arith)

      shows : (i : ℕ) → i < suc (length t.numbers) → shown edge parent v i ≡ pos (get_or (k ∷ t.numbers) i 0)
      shows zero l = e
      shows (suc i) l = ap parent (first i) ∙ t.shows i (omega arith)

  trace : {v : ℕ} → Leads net (numbered edge m) s parent v → v < n → Trace v
  trace there l =
      record {
        numbers = [];
        number = λ k q. absurd (omega arith);
        shows = λ k q. absurd (omega arith);
        home = refl;
        leads = refl;
        sums = sym (source_zero net far n s dist h.distances inside);
      }
  trace (back k e real named marked r) l =
      longer e.to k l marked (subst Trace (ap (λ (x : Edge). x.from) named.1) (trace r (below e real).0))

  module _ (z : ℕ) (l : z < n) where
    within : (k : ℕ) → behind edge parent z k < n
    within = stays_below edge parent n (λ v r. by v r (parent v) refl) z l
      where
        by : (v : ℕ) → v < n → (p : ℤ) → parent v ≡ p → origin edge v p < n
        by v r (pos k) e = (step v k r e).begins
        by v r (negsuc k) e = r

    -- From the source, and from an unreached vertex, there is nothing but -1.
    none : (z ≡ s) ⊎ (dist z ≡ far) → (k : ℕ) → shown edge parent z k ≡ negsuc 0
    none o k = ap parent (stays edge parent z blank k) ∙ blank
      where
        blank : parent z ≡ negsuc 0
        blank = elim o [ inl e ↦ ap parent e ∙ h.parents.source_mark | inr e ↦ h.parents.unreached_mark z l e ]

    module _ (row : ℕ → ℤ) (same : (k : ℕ) → k < n - 1 → row k ≡ shown edge parent z k) where
      route : dist z ≢ far → Route edge m s z (dist z) (n - 1) row
      route near =
          record {
            numbers = t.numbers;
            few = few;
            below = t.number;
            shows = λ k q. same k (omega (arith, few)) ∙ t.shows k q;
            pads = λ k q r. same k r ∙ ap parent (home k q) ∙ h.parents.source_mark;
            leads = t.leads;
            sums = t.sums;
          }
        where
          t : Trace z
          t = trace (h.parents.leads z l near) l

          count : ℕ
          count = length t.numbers

          home : (k : ℕ) → count ≤ k → behind edge parent z k ≡ s
          home k q =
              let more = k - count in
              let all : k ≡ count + more = omega arith in
              ap (behind edge parent z) all
              ∙ later edge parent z count more
              ∙ ap (λ (v : ℕ). behind edge parent v more) t.home
              ∙ stays edge parent s h.parents.source_mark more

          -- A vertex that came twice would keep the marks from the source.
          twice : ¬ (n ≤ count)
          twice q =
              let w = pigeon n (behind edge parent z) (λ i _. within i) in
              let i = w.0 in
              let j = w.1 in
              let k = count - j in
              let early = later edge parent z i k ∙ ap (λ (v : ℕ). behind edge parent v k) w.4 ∙ sym (later edge parent z j k) in
              let all : j + k ≡ count = omega (arith, w.3) in
              let late = ap (behind edge parent z) all ∙ t.home in
              pos-ne-negsuc (get_or t.numbers (i + k) 0) 0
              (sym (t.shows (i + k) (omega (arith, w.2, w.3))) ∙ ap parent (early ∙ late) ∙ h.parents.source_mark)

          few : count ≤ n - 1
          few = elim (dec_le count (n - 1)) [ yes q ↦ q | no q ↦ absurd (twice (omega arith)) ]

      pub route_to : RouteTo edge m far n s dist parent z row
      route_to = record { inside = within; followed = same; route = route; nothing = λ o k q. same k q ∙ none o k }

-- Distances, parents and rows that are the same where there are any show the same.
module _ (edge : ℕ → Edge) (m n s : ℕ) (far : ℤ) (dist dist' parent parent' : ℕ → ℤ) (z : ℕ) (row row' : ℕ → ℤ)
    (same_dist : (v : ℕ) → v < n → dist' v ≡ dist v) (same_parent : (v : ℕ) → v < n → parent' v ≡ parent v)
    (same_row : (k : ℕ) → k < n - 1 → row' k ≡ row k) (r : RouteTo edge m far n s dist parent z row) where
  same_route : Route edge m s z (dist z) (n - 1) row → Route edge m s z (dist' z) (n - 1) row'
  same_route t =
      record {
        numbers = t.numbers;
        few = t.few;
        below = t.below;
        shows = λ k l. same_row k (omega (arith, t.few)) ∙ t.shows k l;
        pads = λ k l b. same_row k b ∙ t.pads k l b;
        leads = t.leads;
        sums = t.sums ∙ sym (same_dist z (r.inside 0));
      }

  pub route_carried : RouteTo edge m far n s dist' parent' z row'
  route_carried =
      let there = same_dist z (r.inside 0) in
      record {
        inside = λ k. rw (behind_same edge n parent parent' same_parent z r.inside k) (r.inside k);
        followed = λ k l. same_row k l ∙ r.followed k l ∙ sym (shown_same edge n parent parent' same_parent z r.inside k);
        route = λ near. same_route (r.route (λ e. near (there ∙ e)));
        nothing = λ o k l. same_row k l ∙ r.nothing (elim o [ inl e ↦ inl e | inr e ↦ inr (sym there ∙ e) ]) k l;
      }

-- Two rows that follow the same parents are the same.
pub one_route : {edge : ℕ → Edge} {m n s z : ℕ} {far : ℤ} {dist parent r r' : ℕ → ℤ} →
    RouteTo edge m far n s dist parent z r → RouteTo edge m far n s dist parent z r' → (k : ℕ) → k < n - 1 → r k ≡ r' k
one_route p q k l = p.followed k l ∙ sym (q.followed k l)

-- ---- what a route is worth

module _ {edge : ℕ → Edge} {m : ℕ} {far : ℤ} {n s : ℕ} {dist parent : ℕ → ℤ} {z : ℕ} {row : ℕ → ℤ}
    (r : RouteTo edge m far n s dist parent z row) (near : dist z ≢ far) where
  -- No walk to z costs less.
  pub least_route : Distances (network edge m) far n s dist → z < n → Least (network edge m) s z (dist z) (last_first edge (r.route near).numbers)
  least_route d l = record { leads = (r.route near).leads; sums = (r.route near).sums; least = (d.reached z l near).1.least }

  -- To the source it has no edges.
  pub home_already : z ≡ s → (r.route near).numbers ≡ []
  home_already e = by (r.route near).numbers (r.route near).few (r.route near).shows
    where
      by : (ks : List ℕ) → length ks ≤ n - 1 → ((k : ℕ) → k < length ks → row k ≡ pos (get_or ks k 0)) → ks ≡ []
      by [] few shows = refl
      by (k ∷ ks) few shows =
          absurd (pos-ne-negsuc k 0 (sym (shows 0 (omega arith)) ∙ r.nothing (inl e) 0 (omega arith)))
