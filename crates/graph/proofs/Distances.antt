-- What distances say of walks: one to a vertex reaches it, the source's distance is 0, there is no negative cycle; how large they are; how those of
-- two networks compare by their walks, so that a network has one row of them. Rests on walks and on the integer kit.
use mathlib.Core.Path.{◌≡◌, refl, sym, ap, ◌∙◌}
use mathlib.Core.Logic.{◌↔◌, ◌≢◌}
use mathlib.Core.List.{List, [], ◌∷◌, ◌++◌}
use Prim.Native.Nat.{ℕ, ◌-◌, ◌*◌, ◌<◌, ◌≤◌}
use native.Mathlib.Omega.{arith}
use lib.IntN.{ℤ, pos, nat_abs, ℤ_discrete}
use lib.Signed.{◌≤ℤ◌}
use Rattle.graph.specs.Walk.{Edge, Network, Chain, total, Walk, NegativeCycle, Below}
use Rattle.graph.specs.Shortest.{Distances}
use Rattle.graph.specs.Reweighed.{Becomes}
use Rattle.graph.proofs.Int.{arithℤ, sum}
use Rattle.graph.proofs.Walk.{total_append, chain_append, short}

end_below : (net : Network) (n : ℕ) → Below net n → (es : List Edge) (u v : ℕ) → Chain net u es v → u < n → v < n
end_below net n b [] u v c h = rw (← c) h
end_below net n b (e ∷ es) u v c h = end_below net n b es e.to v c.2 (b e c.0).1

module _ (net : Network) (far : ℤ) (n s : ℕ) (dist : ℕ → ℤ) (d : Distances net far n s dist) where
  pub has_walk : (v : ℕ) → v < n → Walk net s v → dist v ≢ far
  has_walk v l w e = (d.unreached v l).0 e w

  -- A closed walk from a reached vertex costs nothing or more.
  no_loss : (v : ℕ) → v < n → dist v ≢ far → (es : List Edge) → Chain net v es v → pos 0 ≤ℤ total es
  no_loss v l h es c =
      let r = d.reached v l h in
      omega (
        arithℤ,
        r.1.sums,
        r.1.least (r.0 ++ es) (chain_append net r.0 es s v v r.1.leads c),
        total_append r.0 es,
        sum (total r.0) (total es),
      )

  pub source_zero : s < n → dist s ≡ pos 0
  source_zero i =
      let h = has_walk s i ([], refl) in
      let r = d.reached s i h in
      omega (arithℤ, r.1.sums, r.1.least [] refl, no_loss s i h r.0 r.1.leads)

  pub no_cycle : Below net n → s < n → ¬ NegativeCycle net s
  no_cycle b i z =
      let l = end_below net n b z.lead s z.at z.leads i in
      omega (arithℤ, z.negative, no_loss z.at l (has_walk z.at l (z.lead, z.leads)) z.cycle z.closed)

-- With weights of at most W either way, a distance is at most n - 1 of them.
module _ (net : Network) (far : ℤ) (n s : ℕ) (dist : ℕ → ℤ) (d : Distances net far n s dist) (below : Below net n) (inside : s < n)
    (W : ℕ) (weights : (e : Edge) → net e → nat_abs e.weight ≤ W) where
  pub distance_within : (v : ℕ) → v < n → dist v ≢ far → nat_abs (dist v) ≤ (n - 1) * W
  distance_within v l h =
      let r = d.reached v l h in
      let t = short net W weights n below s inside (no_cycle net far n s dist d below inside) r.0 v r.1.leads in
      let same : total t.0 ≡ dist v = omega (arithℤ, t.2, r.1.sums, r.1.least t.0 t.1) in
      omega (arith, ap nat_abs same, t.3)

-- Where each walk has in the other network one to the same vertex, of its total turned by G or less, and the other way round, distances are turned by G.
pub carried : (net net' : Network) (far far' : ℤ) (n s : ℕ) (dist dist' : ℕ → ℤ) (G : ℕ → ℤ → ℤ) → ((v : ℕ) (a b : ℤ) → a ≤ℤ b → G v a ≤ℤ G v b)
    → ((v : ℕ) (es : List Edge) → Chain net s es v → (es' : List Edge) × Chain net' s es' v × (total es' ≤ℤ G v (total es)))
    → ((v : ℕ) (es' : List Edge) → Chain net' s es' v → (es : List Edge) × Chain net s es v × (G v (total es) ≤ℤ total es'))
    → Distances net far n s dist → Distances net' far' n s dist' → Becomes G far far' n dist dist'
carried net net' far far' n s dist dist' G mono forth home d d' =
    record {
      blank = λ v l e. (d'.unreached v l).1 (λ w. let r = home v w.0 w.1 in (d.unreached v l).0 e (r.0, r.1));
      each = λ v l ne.
          let p = d.reached v l ne in
          let there = forth v p.0 p.1.leads in
          let q = d'.reached v l (has_walk net' far' n s dist' d' v l (there.0, there.1)) in
          let back = home v q.0 q.1.leads in
          omega (
            arithℤ,
            q.1.least there.0 there.1,
            there.2,
            ap (G v) p.1.sums,
            mono v (dist v) (total back.0) (p.1.least back.0 back.1),
            back.2,
            q.1.sums,
          );
      apart = λ v l ne.
          let p = d.reached v l ne in
          let there = forth v p.0 p.1.leads in
          has_walk net' far' n s dist' d' v l (there.0, there.1);
    }

pub both_unreached : (G : ℕ → ℤ → ℤ) (far far' : ℤ) (n : ℕ) (dist dist' : ℕ → ℤ) → Becomes G far far' n dist dist'
    → (v : ℕ) → v < n → (dist v ≡ far) ↔ (dist' v ≡ far')
both_unreached G far far' n dist dist' to v l = (
  to.blank v l,
  λ e. elim (ℤ_discrete (dist v) far) [ yes q ↦ q | no q ↦ absurd (to.apart v l q e) ],
)

-- Turned by nothing, and with one mark, they are the same.
pub unturned : (far : ℤ) (n : ℕ) (dist dist' : ℕ → ℤ) → Becomes (λ v t. t) far far n dist dist' → (v : ℕ) → v < n → dist' v ≡ dist v
unturned far n dist dist' to v l = elim (ℤ_discrete (dist v) far) [ yes e ↦ to.blank v l e ∙ sym e | no ne ↦ to.each v l ne ]

-- A network has one row of distances.
pub one_row : (net : Network) (far : ℤ) (n s : ℕ) (dist dist' : ℕ → ℤ) → Distances net far n s dist → Distances net far n s dist'
    → (v : ℕ) → v < n → dist' v ≡ dist v
one_row net far n s dist dist' d d' =
    unturned far n dist dist'
    (carried net net far far n s dist dist' (λ v t. t) (λ v a b k. k) (λ v es c. (es, c, omega arithℤ)) (λ v es c. (es, c, omega arithℤ)) d d')
