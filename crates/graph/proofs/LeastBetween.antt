-- Between two vertices there is one least weight, or none; in a row of edges it is there to be found. Networks that agree in it have the same distances.
-- Rests on distances.
use mathlib.Core.Path.{◌≡◌, refl, sym, ap, ◌∙◌, subst}
use mathlib.Core.Logic.{◌⊎◌, inl, inr, ◌↔◌, ◌≢◌}
use mathlib.Core.List.{List, [], ◌∷◌, ◌++◌}
use mathlib.Core.Option.{Option, none, some}
use Prim.Native.Nat.{ℕ, zero, suc, ◌<◌}
use native.Mathlib.Omega.{arith}
use native.Mathlib.Decide.{ℕ_discrete}
use lib.IntN.{ℤ, pos}
use lib.Signed.{◌≤ℤ◌}
use Rattle.graph.specs.Walk.{Edge, Network, Chain, total, NegativeCycle, Below}
use Rattle.graph.specs.Shortest.{Distances}
use Rattle.graph.specs.BellmanFord.{network}
use Rattle.graph.specs.LeastBetween.{between, LeastBetween, HasLeast, SameLeast}
use Rattle.graph.proofs.Int.{arithℤ, sum, le_or_lt}
use Rattle.graph.proofs.Walk.{chain_append}
use Rattle.graph.proofs.Distances.{no_cycle, carried, unturned}

-- ---- there is one

pub one_least : (net : Network) (u v : ℕ) (w w' : Option ℤ) → LeastBetween net u v w → LeastBetween net u v w' → w ≡ w'
one_least net u v none none p q = refl
one_least net u v none (some w) p (there, least) = absurd (p w there)
one_least net u v (some w) none (there, least) q = absurd (q w there)
one_least net u v (some w) (some w') (there, least) (there', least') = ap some (omega (arithℤ, least w' there', least' w there))

-- Where it is the same, networks agree.
pub same_least : (net net' : Network) (u v : ℕ) (x : Option ℤ) → LeastBetween net u v x → LeastBetween net' u v x
    → (w : Option ℤ) → LeastBetween net u v w ↔ LeastBetween net' u v w
same_least net net' u v x p p' w = (
  λ q. subst (LeastBetween net' u v) (one_least net u v x w p q) p',
  λ q. subst (LeastBetween net u v) (one_least net' u v x w p' q) p,
)

-- ---- in a row of edges

module _ (edge : ℕ → Edge) (u v : ℕ) where
  earlier : (m : ℕ) (e : Edge) → network edge (suc m) e → network edge m e ⊎ (e ≡ edge m)
  earlier m e (i, l, q) = elim (ℕ_discrete i m) [ yes k ↦ inr (q ∙ ap edge k) | no k ↦ inl (i, omega arith, q) ]

  later : (m : ℕ) (e : Edge) → network edge m e → network edge (suc m) e
  later m e (i, l, q) = (i, omega arith, q)

  same_weight : (e : Edge) (x y : ℤ) → between u v x ≡ e → between u v y ≡ e → x ≡ y
  same_weight e x y p q = ap (λ (d : Edge). d.weight) (p ∙ sym q)

  -- With edge m, which does not lead from u to v.
  apart : (m : ℕ) → ((w : ℤ) → between u v w ≢ edge m) → (w : Option ℤ) → LeastBetween (network edge m) u v w
      → LeastBetween (network edge (suc m)) u v w
  apart m ne none p = λ w real. elim (earlier m (between u v w) real) [ inl r ↦ p w r | inr q ↦ ne w q ]
  apart m ne (some w) (there, least) = (
    later m (between u v w) there,
    λ x real. elim (earlier m (between u v x) real) [ inl r ↦ least x r | inr q ↦ absurd (ne x q) ],
  )

  -- With edge m, which does, and weighs y.
  joined : (m : ℕ) (y : ℤ) → between u v y ≡ edge m → (w : Option ℤ) → LeastBetween (network edge m) u v w
      → (w' : Option ℤ) × LeastBetween (network edge (suc m)) u v w'
  joined m y is none p = (
    some y,
    (
      (m, omega arith, is),
      λ x real. elim (earlier m (between u v x) real) [ inl r ↦ absurd (p x r) | inr q ↦ omega (arithℤ, same_weight (edge m) x y q is) ],
    ),
  )
  joined m y is (some w) (there, least) =
      elim (le_or_lt w y) [
        | inl h ↦ (
          some w,
          (
            later m (between u v w) there,
            λ x real. elim (earlier m (between u v x) real) [ inl r ↦ least x r | inr q ↦ omega (arithℤ, same_weight (edge m) x y q is) ],
          ),
        )
        | inr h ↦ (
          some y,
          (
            (m, omega arith, is),
            λ x real.
                elim (earlier m (between u v x) real) [ inl r ↦ omega (arithℤ, least x r) | inr q ↦ omega (arithℤ, same_weight (edge m) x y q is) ],
          ),
        )
      ]

  pub row_least : (m : ℕ) → (w : Option ℤ) × LeastBetween (network edge m) u v w
  row_least zero = (none, λ w (i, l, q). omega arith)
  row_least (suc m) =
      let (w, p) = row_least m in
      elim (ℕ_discrete u (edge m).from) [
        | no a ↦ (w, apart m (λ x q. a (ap (λ (e : Edge). e.from) q)) w p)
        | yes a ↦ elim (ℕ_discrete v (edge m).to) [
          | no b ↦ (w, apart m (λ x q. b (ap (λ (e : Edge). e.to) q)) w p)
          | yes b ↦ joined m (edge m).weight (let q : between u v (edge m).weight ≡ edge m = rw (a, b) in q) w p
        ]
      ]

-- ---- networks that agree

-- Each edge between different vertices has in the other network one with the same ends that weighs no more.
abbrev Covered : Network → Network → Type 0
Covered net net' = (e : Edge) → net e → e.from ≢ e.to → (w : ℤ) × net' (between e.from e.to w) × (w ≤ℤ e.weight)

covered : (n : ℕ) (net net' : Network) → Below net n → HasLeast n net
    → ((u v : ℕ) → u < n → v < n → u ≢ v → (w : Option ℤ) → LeastBetween net u v w → LeastBetween net' u v w)
    → Covered net net'
covered n net net' below has same e real ne =
    let (from, to) = below e real in
    let (w, p) = has e.from e.to from to in
    by w p (same e.from e.to from to ne w p)
  where
    by : (w : Option ℤ) → LeastBetween net e.from e.to w → LeastBetween net' e.from e.to w
        → (w : ℤ) × net' (between e.from e.to w) × (w ≤ℤ e.weight)
    by none p q = absurd (p e.weight real)
    by (some w) p q = (w, q.0, p.1 e.weight real)

-- A walk from a vertex that s leads to has one in the other network that costs no more: its edges from a vertex to itself, which cost nothing or more,
-- are left out.
module _ (net net' : Network) (s : ℕ) (no_loss : ¬ NegativeCycle net s) (cover : Covered net net') where
  loop : (lead : List Edge) (u : ℕ) → Chain net s lead u → (e : Edge) → net e → e.from ≡ u → e.from ≡ e.to → pos 0 ≤ℤ e.weight
  loop lead u k e real begins round =
      elim (le_or_lt (pos 0) e.weight) [
        | inl h ↦ h
        | inr h ↦
            absurd
            (no_loss
            (record {
              at = u;
              lead = lead;
              leads = k;
              cycle = e ∷ [];
              closed = (real, begins, sym round ∙ begins);
              negative = omega (arithℤ, sum e.weight (pos 0));
            }))
      ]

  over : (es lead : List Edge) (u v : ℕ) → Chain net s lead u → Chain net u es v → (es' : List Edge) × Chain net' u es' v × (total es' ≤ℤ total es)
  over [] lead u v k c = ([], c, omega arithℤ)
  over (e ∷ es) lead u v k c =
      let rest = over es (lead ++ e ∷ []) e.to v (chain_append net lead (e ∷ []) s u e.to k (c.0, c.1, refl)) c.2 in
      elim (ℕ_discrete e.from e.to) [
        | no ne ↦
            let (w, there, less) = cover e c.0 ne in (
              between e.from e.to w ∷ rest.0,
              (there, c.1, rest.1),
              omega (arithℤ, less, rest.2, sum w (total rest.0), sum e.weight (total es)),
            )
        | yes q ↦ (
          rest.0,
          subst (λ (x : ℕ). Chain net' x rest.0 v) (sym q ∙ c.1) rest.1,
          omega (arithℤ, rest.2, loop lead u k e c.0 c.1 q, sum e.weight (total es)),
        )
      ]

pub same_distances : (net net' : Network) (far : ℤ) (n s : ℕ) (dist dist' : ℕ → ℤ) → Below net n → Below net' n → s < n
    → HasLeast n net → HasLeast n net' → SameLeast n net net' → Distances net far n s dist → Distances net' far n s dist' → (v : ℕ) → v < n → dist' v ≡ dist v
same_distances net net' far n s dist dist' below below' inside has has' same d d' =
    let there = covered n net net' below has (λ u v i j ne w. (same u v i j ne w).0) in
    let back = covered n net' net below' has' (λ u v i j ne w. (same u v i j ne w).1) in
    unturned far n dist dist'
    (carried net net' far far n s dist dist' (λ v t. t) (λ v a b k. k)
    (λ v es c. over net net' s (no_cycle net far n s dist d below inside) there es [] s v refl c)
    (λ v es c. over net' net s (no_cycle net' far n s dist' d' below' inside) back es [] s v refl c) d d')
