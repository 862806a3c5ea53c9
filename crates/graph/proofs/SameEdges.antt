-- Two networks with the same edges: a walk of one is a walk of the other, so are their negative cycles, and distances and parents of one are those of the other.
-- Rests on the definitions alone.
use mathlib.Core.Logic.{◌↔◌}
use mathlib.Core.List.{List, [], ◌∷◌}
use Prim.Native.Nat.{ℕ}
use lib.IntN.{ℤ}
use Rattle.graph.specs.Walk.{Edge, Network, Chain, Least, NegativeCycle}
use Rattle.graph.specs.Shortest.{Naming, Leads, there, back, Distances, Parents, Shortest}

-- One way.
module _ (net net' : Network) (to : (e : Edge) → net e → net' e) where
  chain_over : (es : List Edge) (u v : ℕ) → Chain net u es v → Chain net' u es v
  chain_over [] u v c = c
  chain_over (e ∷ es) u v c = (to e c.0, c.1, chain_over es e.to v c.2)

  pub cycle_over : (s : ℕ) → NegativeCycle net s → NegativeCycle net' s
  cycle_over s z =
      record {
        at = z.at;
        lead = z.lead;
        leads = chain_over z.lead s z.at z.leads;
        cycle = z.cycle;
        closed = chain_over z.cycle z.at z.at z.closed;
        negative = z.negative;
      }

  leads_over : {Names : Naming} {s : ℕ} {parent : ℕ → ℤ} {v : ℕ} → Leads net Names s parent v → Leads net' Names s parent v
  leads_over there = there
  leads_over (back k e real named marked r) = back k e (to e real) named marked (leads_over r)

-- Both ways.
module _ (net net' : Network) (same : (e : Edge) → net e ↔ net' e) where
  least_over : (u v : ℕ) (d : ℤ) (es : List Edge) → Least net u v d es → Least net' u v d es
  least_over u v d es l =
      record {
        leads = chain_over net net' (λ e. (same e).0) es u v l.leads;
        sums = l.sums;
        least = λ fs c. l.least fs (chain_over net' net (λ e. (same e).1) fs u v c);
      }

  module _ (far : ℤ) (n s : ℕ) (dist : ℕ → ℤ) where
    pub distances_over : Distances net far n s dist → Distances net' far n s dist
    distances_over h =
        record {
          reached = λ v l r. let p = h.reached v l r in (p.0, least_over s v (dist v) p.0 p.1);
          unreached = λ v l. (
            λ e w. (h.unreached v l).0 e (w.0, chain_over net' net (λ x. (same x).1) w.0 s v w.1),
            λ f. (h.unreached v l).1 (λ w. f (w.0, chain_over net net' (λ x. (same x).0) w.0 s v w.1)),
          );
        }

    module _ (Names : Naming) (parent : ℕ → ℤ) where
      pub parents_over : Parents net Names far n s dist parent → Parents net' Names far n s dist parent
      parents_over h =
          record {
            last_edge = λ v l r ne.
                let t = h.last_edge v l r ne in
                record {
                  mark = t.mark;
                  marked = t.marked;
                  edge = t.edge;
                  named = t.named;
                  front = t.front;
                  least = least_over s v (dist v) _ t.least;
                };
            leads = λ v l r. leads_over net net' (λ e. (same e).0) (h.leads v l r);
            source_mark = h.source_mark;
            unreached_mark = h.unreached_mark;
          }

      pub shortest_over : Shortest net Names far n s dist parent → Shortest net' Names far n s dist parent
      shortest_over h = record { distances = distances_over h.distances; parents = parents_over h.parents }
