-- Parents that fall in rank: where the distances are closed, the parents lead to the source, and both are what `Shortest` asks.
-- Rests on the certificate.
use mathlib.Core.Path.{◌≡◌, refl, sym, ap, ◌∙◌}
use mathlib.Core.Logic.{◌≢◌}
use mathlib.Core.List.{[]}
use Prim.Native.Nat.{ℕ, zero, suc, ◌<◌}
use native.Mathlib.Omega.{arith}
use native.Mathlib.Decide.{ℕ_discrete}
use lib.IntN.{ℤ, pos, negsuc, ◌+ℤ◌}
use lib.Signed.{◌≤ℤ◌, ◌<ℤ◌}
use Rattle.graph.specs.Walk.{Edge, Network, Below}
use Rattle.graph.specs.Shortest.{Naming, Leads, there, back, Distances, Parents, Shortest}
use Rattle.graph.proofs.Int.{arithℤ}
use Rattle.graph.proofs.Walk.{WalkOf, one_more}
use Rattle.graph.proofs.Certificate.{Sound, Closed, closed_least, distances, near}

-- The mark of v names an edge to v from a reached vertex, which costs at most the difference; where it costs just that, the from-vertex is lower in rank.
pub record Parent (net : Network) (Names : Naming) (far : ℤ) (dist parent : ℕ → ℤ) (rank : ℕ → ℕ) (v : ℕ) : Type 0 where
  pub mark : ℕ
  pub marked : parent v ≡ pos mark
  pub edge : Edge
  pub real : net edge
  pub named : Names mark edge
  pub ends : edge.to ≡ v
  pub reached : dist edge.from <ℤ far
  pub covers : (dist edge.from +ℤ edge.weight) ≤ℤ dist v
  pub falls : dist edge.from +ℤ edge.weight ≡ dist v → rank edge.from < rank v

pub record Ranked (net : Network) (Names : Naming) (far : ℤ) (n s : ℕ) (dist parent : ℕ → ℤ) : Type 0 where
  pub rank : ℕ → ℕ
  pub each : (v : ℕ) → v < n → dist v <ℤ far → v ≢ s → Parent net Names far dist parent rank v

module _ (net : Network) (Names : Naming) (far : ℤ) (n s : ℕ) (dist parent : ℕ → ℤ) (below : Below net n)
    (closed : Closed net far dist) (ranked : Ranked net Names far n s dist parent) (begun : pos 0 <ℤ far) (zero_at : dist s ≡ pos 0) where
  module _ (v : ℕ) (t : Parent net Names far dist parent ranked.rank v) where
    tight : dist t.edge.from +ℤ t.edge.weight ≡ dist v
    tight = omega (arithℤ, (closed t.edge t.real t.reached).1, ap dist t.ends, t.covers)

    abbrev longer : WalkOf net s t.edge.from (dist t.edge.from) → WalkOf net s v (dist v)
    longer = one_more net s v t.edge (dist t.edge.from) (dist v) t.real t.ends tight

    onward : Leads net Names s parent t.edge.from → Leads net Names s parent v
    onward r = rw t.ends at (back t.mark t.edge t.real t.named (ap parent t.ends ∙ t.marked) r)

  home : (fuel v : ℕ) → ranked.rank v < fuel → v < n → dist v <ℤ far → WalkOf net s v (dist v) × Leads net Names s parent v
  home zero v h l r = absurd (omega arith)
  home (suc fuel) v h l r =
      elim (ℕ_discrete v s) [
        | yes e ↦ rw e (([], refl, sym zero_at), there)
        | no ne ↦
            let t = ranked.each v l r ne in
            let q = home fuel t.edge.from (omega (arith, t.falls (tight v t))) (below t.edge t.real).0 t.reached in
            (longer v t q.0, onward v t q.1)
      ]

  sound : Sound net far n s dist
  sound =
      record {
        start = omega arithℤ;
        begun = omega arithℤ;
        walks = λ v l h. (home (suc (ranked.rank v)) v (omega arith) l h).0;
      }

  pub shortest : ((v : ℕ) → v < n → dist v ≤ℤ far) → parent s ≡ negsuc 0 → ((v : ℕ) → v < n → dist v ≡ far → parent v ≡ negsuc 0) →
      Shortest net Names far n s dist parent
  shortest low source_mark unreached_mark =
      record {
        distances = distances net far n s dist closed sound low;
        parents = record {
          last_edge = λ v l h ne.
              let t = ranked.each v l (near (low v l) h) ne in
              let w = sound.walks t.edge.from (below t.edge t.real).0 t.reached in
              let r = longer v t w in
              record {
                mark = t.mark;
                marked = t.marked;
                edge = t.edge;
                named = t.named;
                front = w.0;
                least = record { leads = r.1; sums = r.2; least = λ fs c. (closed_least net far n s dist closed sound fs v c).1 };
              };
          leads = λ v l h. (home (suc (ranked.rank v)) v (omega arith) l (near (low v l) h)).1;
          source_mark = source_mark;
          unreached_mark = unreached_mark;
        };
      }

-- Only what stands below n matters: distances and parents carry over to functions that agree there.
module _ (net : Network) (far : ℤ) (n s : ℕ) (dist dist' : ℕ → ℤ) (same_dist : (v : ℕ) → v < n → dist' v ≡ dist v) where
  pub distances_carried : Distances net far n s dist → Distances net far n s dist'
  distances_carried h =
      record {
        reached = λ v l k. rw (same_dist v l) (h.reached v l (rw (same_dist v l) at k));
        unreached = λ v l. rw (same_dist v l) (h.unreached v l);
      }

  module _ (Names : Naming) (parent parent' : ℕ → ℤ) (below : Below net n) (inside : s < n) (same_parent : (v : ℕ) → v < n → parent' v ≡ parent v) where
    leads_carried : {v : ℕ} → Leads net Names s parent v → Leads net Names s parent' v
    leads_carried there = there
    leads_carried (back k e real named marked r) = back k e real named (same_parent e.to (below e real).1 ∙ marked) (leads_carried r)

    pub parents_carried : Parents net Names far n s dist parent → Parents net Names far n s dist' parent'
    parents_carried h =
        record {
          last_edge = λ v l k ne.
              let t = h.last_edge v l (rw (same_dist v l) at k) ne in
              record {
                mark = t.mark;
                marked = same_parent v l ∙ t.marked;
                edge = t.edge;
                named = t.named;
                front = t.front;
                least = rw (same_dist v l) t.least;
              };
          leads = λ v l k. leads_carried (h.leads v l (rw (same_dist v l) at k));
          source_mark = same_parent s inside ∙ h.source_mark;
          unreached_mark = λ v l e. same_parent v l ∙ h.unreached_mark v l (sym (same_dist v l) ∙ e);
        }

    pub carried : Shortest net Names far n s dist parent → Shortest net Names far n s dist' parent'
    carried h = record { distances = distances_carried h.distances; parents = parents_carried h.parents }
