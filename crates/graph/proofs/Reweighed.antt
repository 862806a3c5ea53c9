-- Other weights, edge by edge, that turn the totals of walks along with them: the shortest walks stay. A factor is such, and so are moved fees.
-- Rests on distances and on products.
use mathlib.Core.Path.{◌≡◌, refl, sym, ap, ◌∙◌, subst}
use mathlib.Core.Logic.Iff
use mathlib.Core.Logic.{◌↔◌, ◌≢◌}
use mathlib.Core.List.{List, [], ◌∷◌, ◌++◌}
use Prim.Native.Nat.{ℕ, ◌<◌}
use lib.IntN.{ℤ, pos, ◌+ℤ◌, ◌-ℤ◌, ◌*ℤ◌}
use lib.Signed.{◌≤ℤ◌, ◌<ℤ◌}
use Rattle.graph.specs.Walk.{Edge, Network, Chain, total, Walk, Least, NegativeCycle}
use Rattle.graph.specs.Shortest.{Naming, Leads, there, back, LastEdge, Distances, Shortest}
use Rattle.graph.specs.BellmanFord.{network, numbered}
use Rattle.graph.specs.Reweighed.{Weighed, Reweighed, Renamed, Becomes, scaled, moved}
use Rattle.graph.proofs.Int.{arithℤ, sum}
use Rattle.graph.proofs.Product.{minus, times, times_sum, times_le}
use Rattle.graph.proofs.Distances.{carried, both_unreached}

same_edge : (e e' : Edge) → e.from ≡ e'.from → e.to ≡ e'.to → e.weight ≡ e'.weight → e ≡ e'
same_edge e e' from to weight = let q : record { from = e.from; to = e.to; weight = e.weight } ≡ e' = rw (from, to, weight) in q

-- With weights f e for e, a walk from u to v of total t has total F u v t.
record Turns (f : Edge → ℤ) (F : ℕ → ℕ → ℤ → ℤ) : Type 0 where
  none : (u : ℕ) → F u u (pos 0) ≡ pos 0
  more : (e : Edge) (v : ℕ) (t : ℤ) → F e.from v (e.weight +ℤ t) ≡ f e +ℤ F e.to v t
  mono : (u v : ℕ) (a b : ℤ) → a ≤ℤ b → F u v a ≤ℤ F u v b

module _ {f : Edge → ℤ} {F : ℕ → ℕ → ℤ → ℤ} (t : Turns f F) (net net' : Network) (like : Reweighed f net net') where
  -- ---- walks, both ways

  nothing : (u v : ℕ) → u ≡ v → pos 0 ≡ F u v (pos 0)
  nothing u v c = subst (λ (x : ℕ). pos 0 ≡ F u x (pos 0)) c (sym (t.none u))

  onward : (e : Edge) (u v : ℕ) (w a b : ℤ) → w ≡ f e → e.from ≡ u → b ≡ F e.to v a → w +ℤ b ≡ F u v (e.weight +ℤ a)
  onward e u v w a b p q r = rw p (rw r (sym (t.more e v a) ∙ ap (λ (x : ℕ). F x v (e.weight +ℤ a)) q))

  forth : (es : List Edge) (u v : ℕ) → Chain net u es v → (es' : List Edge) × Chain net' u es' v × (total es' ≡ F u v (total es))
  forth [] u v c = ([], c, nothing u v c)
  forth (e ∷ es) u v c =
      let g = like.forth e c.0 in
      let r = forth es e.to v c.2 in (
        g.0 ∷ r.0,
        (g.1, g.2.begins ∙ c.1, subst (λ (x : ℕ). Chain net' x r.0 v) (sym g.2.ends) r.1),
        onward e u v g.0.weight (total es) (total r.0) g.2.weighs c.1 r.2,
      )

  home : (es' : List Edge) (u v : ℕ) → Chain net' u es' v → (es : List Edge) × Chain net u es v × (total es' ≡ F u v (total es))
  home [] u v c = ([], c, nothing u v c)
  home (e' ∷ es') u v c =
      let g = like.back e' c.0 in
      let r = home es' e'.to v c.2 in (
        g.0 ∷ r.0,
        (g.1, sym g.2.begins ∙ c.1, subst (λ (x : ℕ). Chain net x r.0 v) g.2.ends r.1),
        onward g.0 u v e'.weight (total r.0) (total es') g.2.weighs (sym g.2.begins ∙ c.1)
            (r.2 ∙ ap (λ (x : ℕ). F x v (total r.0)) g.2.ends),
      )

  -- The last edge of a walk becomes the last.
  record Turned (es : List Edge) (e : Edge) (u v : ℕ) : Type 0 where
    front : List Edge
    edge : Edge
    like_last : Weighed f e edge
    leads : Chain net' u (front ++ edge ∷ []) v
    sums : total (front ++ edge ∷ []) ≡ F u v (total (es ++ e ∷ []))

  forth_last : (es : List Edge) (e : Edge) (u v : ℕ) → Chain net u (es ++ e ∷ []) v → Turned es e u v
  forth_last [] e u v c =
      let g = like.forth e c.0 in
      record {
        front = [];
        edge = g.0;
        like_last = g.2;
        leads = (g.1, g.2.begins ∙ c.1, g.2.ends ∙ c.2);
        sums = onward e u v g.0.weight (pos 0) (pos 0) g.2.weighs c.1 (nothing e.to v c.2);
      }
  forth_last (x ∷ es) e u v c =
      let g = like.forth x c.0 in
      let r = forth_last es e x.to v c.2 in
      record {
        front = g.0 ∷ r.front;
        edge = r.edge;
        like_last = r.like_last;
        leads = (g.1, g.2.begins ∙ c.1, subst (λ (y : ℕ). Chain net' y (r.front ++ r.edge ∷ []) v) (sym g.2.ends) r.leads);
        sums = onward x u v g.0.weight (total (es ++ e ∷ [])) (total (r.front ++ r.edge ∷ [])) g.2.weighs c.1 r.sums;
      }

  walks : (u v : ℕ) → Walk net u v ↔ Walk net' u v
  walks u v = (λ w. let r = forth w.0 u v w.1 in (r.0, r.1), λ w. let r = home w.0 u v w.1 in (r.0, r.1))

  -- ---- negative cycles

  -- Where totals of closed walks stay negative, or not.
  cycles : ((u : ℕ) (a : ℤ) → (a <ℤ pos 0) ↔ (F u u a <ℤ pos 0)) → (s : ℕ) → NegativeCycle net s ↔ NegativeCycle net' s
  cycles loss s = (
    λ z.
        let l = forth z.lead s z.at z.leads in
        let r = forth z.cycle z.at z.at z.closed in
        let lost = (loss z.at (total z.cycle)).0 z.negative in
        record { at = z.at; lead = l.0; leads = l.1; cycle = r.0; closed = r.1; negative = rw r.2 lost },
    λ z.
        let l = home z.lead s z.at z.leads in
        let r = home z.cycle z.at z.at z.closed in
        let lost = rw r.2 at z.negative in
        record { at = z.at; lead = l.0; leads = l.1; cycle = r.0; closed = r.1; negative = (loss z.at (total r.0)).1 lost },
  )

  -- ---- least walks

  no_less : (u v : ℕ) (d : ℤ) → ((fs : List Edge) → Chain net u fs v → d ≤ℤ total fs) → (fs : List Edge) → Chain net' u fs v → F u v d ≤ℤ total fs
  no_less u v d least fs c = let q = home fs u v c in rw q.2 (t.mono u v d (total q.0) (least q.0 q.1))

  least_walk : (u v : ℕ) (d : ℤ) (es : List Edge) → Least net u v d es → (es' : List Edge) × Least net' u v (F u v d) es'
  least_walk u v d es p =
      let r = forth es u v p.leads in
      (r.0, record { leads = r.1; sums = r.2 ∙ ap (F u v) p.sums; least = no_less u v d p.least })

  -- ---- distances of both, and distances and parents turned

  both : (far far' : ℤ) (n s : ℕ) (dist dist' : ℕ → ℤ) → Distances net far n s dist → Distances net' far' n s dist'
      → Becomes (F s) far far' n dist dist'
  both far far' n s dist dist' =
      carried net net' far far' n s dist dist' (F s) (t.mono s)
      (λ v es c. let r = forth es s v c in (r.0, r.1, omega (arithℤ, r.2)))
      (λ v es c. let r = home es s v c in (r.0, r.1, omega (arithℤ, r.2)))

  module _ (far far' : ℤ) (n s : ℕ) (dist dist' : ℕ → ℤ) (to : Becomes (F s) far far' n dist dist') where
    near : (v : ℕ) → v < n → dist' v ≢ far' → dist v ≢ far
    near v l ne e = ne (to.blank v l e)

    marked : (v : ℕ) → v < n → dist' v ≡ far' → dist v ≡ far
    marked v l = (both_unreached (F s) far far' n dist dist' to v l).1

    distances_turned : Distances net far n s dist → Distances net' far' n s dist'
    distances_turned d =
        record {
          reached = λ v l ne.
              let r = d.reached v l (near v l ne) in
              rw (to.each v l (near v l ne)) (least_walk s v (dist v) r.0 r.1);
          unreached = λ v l. (
            λ e w. (d.unreached v l).0 (marked v l e) ((walks s v).1 w),
            λ f. to.blank v l ((d.unreached v l).1 (λ w. f ((walks s v).0 w))),
          );
        }

    module _ (Names Names' : Naming) (renamed : Renamed f Names Names') (parent : ℕ → ℤ) where
      leads_turned : {v : ℕ} → Leads net Names s parent v → Leads net' Names' s parent v
      leads_turned there = there
      leads_turned (back k e real named is r) =
          let g = like.forth e real in
          subst (Leads net' Names' s parent) g.2.ends
          (back k g.0 g.1 (renamed k e g.0 g.2 named) (ap parent g.2.ends ∙ is)
          (subst (Leads net' Names' s parent) (sym g.2.begins) (leads_turned r)))

      last_turned : (v : ℕ) → v < n → dist v ≢ far → LastEdge net Names s dist parent v → LastEdge net' Names' s dist' parent v
      last_turned v l ne m =
          let r = forth_last m.front m.edge s v m.least.leads in
          record {
            mark = m.mark;
            marked = m.marked;
            edge = r.edge;
            named = renamed m.mark m.edge r.edge r.like_last m.named;
            front = r.front;
            least =
                rw (to.each v l ne)
                (record { leads = r.leads; sums = r.sums ∙ ap (F s v) m.least.sums; least = no_less s v (dist v) m.least.least });
          }

      shortest_turned : Shortest net Names far n s dist parent → Shortest net' Names' far' n s dist' parent
      shortest_turned h =
          record {
            distances = distances_turned h.distances;
            parents = record {
              last_edge = λ v l ne other. last_turned v l (near v l ne) (h.parents.last_edge v l (near v l ne) other);
              leads = λ v l ne. leads_turned (h.parents.leads v l (near v l ne));
              source_mark = h.parents.source_mark;
              unreached_mark = λ v l e. h.parents.unreached_mark v l (marked v l e);
            };
          }

-- ---- a factor

scaling : (c : ℕ) → Turns (scaled c) (λ u v t. pos c *ℤ t)
scaling c = record { none = λ u. omega (arithℤ, times c (pos 0)); more = λ e v t. times_sum c e.weight t; mono = λ u v. times_le c }

-- Distances multiplied, and parents as they are, are those of the network with every weight multiplied.
module _ (c : ℕ) (net net' : Network) (like : Reweighed (scaled c) net net') (far far' : ℤ) (n s : ℕ) (dist dist' : ℕ → ℤ)
    (to : Becomes (λ v t. pos c *ℤ t) far far' n dist dist') where
  pub scaled_distances : Distances net far n s dist → Distances net' far' n s dist'
  scaled_distances = distances_turned (scaling c) net net' like far far' n s dist dist' to

  pub scaled_shortest : (Names Names' : Naming) → Renamed (scaled c) Names Names' → (parent : ℕ → ℤ)
      → Shortest net Names far n s dist parent → Shortest net' Names' far' n s dist' parent
  scaled_shortest = shortest_turned (scaling c) net net' like far far' n s dist dist' to

-- ---- moved fees: a walk's total rises by the number of its first vertex less that of its last

moving : (fee : ℕ → ℤ) → Turns (moved fee) (λ u v t. t +ℤ (fee u -ℤ fee v))
moving fee =
    record {
      none = λ u. omega (arithℤ, minus (fee u) (fee u), sum (pos 0) (fee u -ℤ fee u));
      more = λ e v t.
          let a = fee e.from in
          let b = fee e.to in
          let c = fee v in
          omega (
            arithℤ,
            minus a c,
            minus a b,
            minus b c,
            sum e.weight t,
            sum (e.weight +ℤ t) (a -ℤ c),
            sum e.weight (a -ℤ b),
            sum t (b -ℤ c),
            sum (e.weight +ℤ (a -ℤ b)) (t +ℤ (b -ℤ c)),
          );
      mono = λ u v a b k. omega (arithℤ, sum a (fee u -ℤ fee v), sum b (fee u -ℤ fee v));
    }

module _ (fee : ℕ → ℤ) (net net' : Network) (like : Reweighed (moved fee) net net') where
  -- A closed walk ends where it begins, and its total stays.
  stays : (u : ℕ) (a : ℤ) → a +ℤ (fee u -ℤ fee u) ≡ a
  stays u a = omega (arithℤ, minus (fee u) (fee u), sum a (fee u -ℤ fee u))

  pub moved_cycles : (s : ℕ) → NegativeCycle net s ↔ NegativeCycle net' s
  moved_cycles = cycles (moving fee) net net' like (λ u a. rw (stays u a) Iff.rfl)

  pub moved_distances : (far far' : ℤ) (n s : ℕ) (dist dist' : ℕ → ℤ) → Distances net far n s dist → Distances net' far' n s dist'
      → Becomes (λ v t. t +ℤ (fee s -ℤ fee v)) far far' n dist dist'
  moved_distances = both (moving fee) net net' like

-- ---- rows of edges that are alike

module _ (f : Edge → ℤ) (edge edge' : ℕ → Edge) (m : ℕ) (each : (i : ℕ) → i < m → Weighed f (edge i) (edge' i)) where
  pub row_reweighed : Reweighed f (network edge m) (network edge' m)
  row_reweighed =
      record {
        forth = λ e real. (edge' real.0, (real.0, real.1, refl), rw real.2 (each real.0 real.1));
        back = λ e' real. (edge real.0, (real.0, real.1, refl), rw real.2 (each real.0 real.1));
      }

  pub row_renamed : Renamed f (numbered edge m) (numbered edge' m)
  row_renamed k e e' w (l, is) =
      let p = each k l in
      let from : e'.from ≡ (edge' k).from = w.begins ∙ ap (λ (x : Edge). x.from) is ∙ sym p.begins in
      let to : e'.to ≡ (edge' k).to = w.ends ∙ ap (λ (x : Edge). x.to) is ∙ sym p.ends in
      let weight : e'.weight ≡ (edge' k).weight = w.weighs ∙ ap f is ∙ sym p.weighs in
      (l, same_edge e' (edge' k) from to weight)
