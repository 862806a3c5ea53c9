-- Walks are appended and cut. A walk of n edges or more goes round a closed one: some shorter walk costs no more, or there is a negative cycle; and how
-- much a short one costs.
-- Rests on the pigeonhole principle and the integer kit.
use mathlib.Core.Path.{◌≡◌, refl, sym, ap, ◌∙◌, subst}
use mathlib.Core.Logic.{◌⊎◌, inl, inr}
use mathlib.Core.List.{List, [], ◌∷◌, ◌++◌}
use Prim.Native.Nat.{ℕ, zero, suc, ◌+◌, ◌-◌, ◌*◌, ◌<◌, ◌≤◌}
use native.Mathlib.Omega.{arith}
use native.Mathlib.Decide.{dec_le}
use native.Mathlib.Nat.{zero-add, suc-add, mul-le-mul_right}
use lib.IntN.{ℤ, pos, nat_abs, ◌+ℤ◌}
use lib.Signed.{◌≤ℤ◌}
use lib.ListN.{length, take, drop, take-append-drop, length-append, length-take, length-drop}
use Rattle.graph.specs.Walk.{Edge, Network, Chain, total, NegativeCycle, Below}
use Rattle.graph.proofs.Int.{arithℤ, sum, le_or_lt, abs_add}
use Rattle.graph.proofs.Pigeon.{pigeon}

-- A walk from u to v of total d.
abbrev pub WalkOf : Network → ℕ → ℕ → ℤ → Type 0
WalkOf net u v d = (es : List Edge) × Chain net u es v × (total es ≡ d)

pub total_append : (a b : List Edge) → total (a ++ b) ≡ total a +ℤ total b
total_append [] b = omega (arithℤ, sum (pos 0) (total b))
total_append (e ∷ es) b =
    omega (
      arithℤ,
      total_append es b,
      sum e.weight (total (es ++ b)),
      sum (total es) (total b),
      sum e.weight (total es),
      sum (e.weight +ℤ total es) (total b),
    )

pub total_snoc : (es : List Edge) (e : Edge) → total (es ++ e ∷ []) ≡ total es +ℤ e.weight
total_snoc es e = total_append es (e ∷ []) ∙ ap (λ (z : ℤ). total es +ℤ z) (omega (arithℤ, sum e.weight (pos 0)))

-- The vertex after i edges.
abbrev pub vertex : ℕ → List Edge → ℕ → ℕ
vertex u [] i = u
vertex u (e ∷ es) zero = u
vertex u (e ∷ es) (suc i) = vertex e.to es i

vertex_drop : (es : List Edge) (u i k : ℕ) → vertex (vertex u es i) (drop i es) k ≡ vertex u es (i + k)
vertex_drop [] u zero k = refl
vertex_drop [] u (suc i) k = refl
vertex_drop (e ∷ es) u zero k = ap (vertex u (e ∷ es)) (sym (zero-add k))
vertex_drop (e ∷ es) u (suc i) k = vertex_drop es e.to i k ∙ ap (vertex u (e ∷ es)) (sym (suc-add i k))

module _ (net : Network) where
  pub chain_append : (a b : List Edge) (u v w : ℕ) → Chain net u a v → Chain net v b w → Chain net u (a ++ b) w
  chain_append [] b u v w c d = rw c d
  chain_append (e ∷ es) b u v w c d = (c.0, c.1, chain_append es b e.to v w c.2 d)

  pub chain_cut : (es : List Edge) (u v i : ℕ) → Chain net u es v → i ≤ length es →
      Chain net u (take i es) (vertex u es i) × Chain net (vertex u es i) (drop i es) v
  chain_cut [] u v zero c h = (refl, c)
  chain_cut [] u v (suc i) c h = absurd (omega arith)
  chain_cut (e ∷ es) u v zero c h = (refl, c)
  chain_cut (e ∷ es) u v (suc i) c h =
      let r = chain_cut es e.to v i c.2 (omega arith) in
      ((c.0, c.1, r.0), r.1)

  -- A walk and one edge more; `.0` is the walk's edges and that one.
  abbrev pub one_more : (u v : ℕ) (e : Edge) (d d' : ℤ) → net e → e.to ≡ v → d +ℤ e.weight ≡ d' → WalkOf net u e.from d → WalkOf net u v d'
  one_more u v e d d' real ends sums w = (
    w.0 ++ e ∷ [],
    chain_append w.0 (e ∷ []) u e.from v w.1 (real, refl, ends),
    total_snoc w.0 e ∙ ap (λ (z : ℤ). z +ℤ e.weight) w.2 ∙ sums,
  )

  vertex_below : (n : ℕ) → Below net n → (es : List Edge) (u v i : ℕ) → Chain net u es v → u < n → vertex u es i < n
  vertex_below n b [] u v i c h = h
  vertex_below n b (e ∷ es) u v zero c h = h
  vertex_below n b (e ∷ es) u v (suc i) c h = vertex_below n b es e.to v i c.2 (b e c.0).1

-- A walk from u to v that goes round a closed walk of some edges.
record Round (net : Network) (u v : ℕ) (es : List Edge) : Type 0 where
  front : List Edge
  ring : List Edge
  back : List Edge
  mid : ℕ
  enters : Chain net u front mid
  turns : Chain net mid ring mid
  leaves : Chain net mid back v
  some : 0 < length ring
  is : es ≡ front ++ (ring ++ back)

-- A walk from u to v of fewer than n edges, of total d or less.
pub record Short (net : Network) (u v n : ℕ) (d : ℤ) : Type 0 where
  pub walk : List Edge
  pub leads : Chain net u walk v
  pub few : length walk < n
  pub cheap : total walk ≤ℤ d

module _ (net : Network) (n : ℕ) (below : Below net n) (u : ℕ) (inside : u < n) where
  round : (es : List Edge) (v : ℕ) → Chain net u es v → n ≤ length es → Round net u v es
  round es v c k =
      record {
        front = take i es;
        ring = take (j - i) (drop i es);
        back = drop (j - i) (drop i es);
        mid = x;
        enters = cut.0;
        turns = subst (λ (y : ℕ). Chain net x (take (j - i) (drop i es)) y) same again.0;
        leaves = subst (λ (y : ℕ). Chain net y (drop (j - i) (drop i es)) v) same again.1;
        some = omega (arith, p.2, p.3, length-take (j - i) (drop i es), length-drop i es);
        is = sym (ap (λ (l : List Edge). take i es ++ l) (take-append-drop (j - i) (drop i es)) ∙ take-append-drop i es);
      }
    where
      p : (i : ℕ) × (j : ℕ) × (i < j) × (j ≤ n) × (vertex u es i ≡ vertex u es j)
      p = pigeon n (vertex u es) (λ i q. vertex_below net n below es u v i c inside)

      i : ℕ
      i = p.0

      j : ℕ
      j = p.1

      x : ℕ
      x = vertex u es i

      cut : Chain net u (take i es) x × Chain net x (drop i es) v
      cut = chain_cut net es u v i c (omega (arith, p.2, p.3))

      again : Chain net x (take (j - i) (drop i es)) (vertex x (drop i es) (j - i)) × Chain net (vertex x (drop i es) (j - i)) (drop (j - i) (drop i es)) v
      again = chain_cut net (drop i es) x v (j - i) cut.1 (omega (arith, length-drop i es, p.2, p.3))

      same : vertex x (drop i es) (j - i) ≡ x
      same = vertex_drop es u i (j - i) ∙ ap (vertex u es) (omega (arith, p.2)) ∙ sym p.4

  -- Without its ring a walk is shorter, and no dearer unless the ring's total is negative.
  module _ (es : List Edge) (v : ℕ) (r : Round net u v es) where
    shorter : length (r.front ++ r.back) < length es
    shorter =
        omega (
          arith,
          ap length r.is,
          r.some,
          length-append r.front r.back,
          length-append r.front (r.ring ++ r.back),
          length-append r.ring r.back,
        )

    cheaper : pos 0 ≤ℤ total r.ring → total (r.front ++ r.back) ≤ℤ total es
    cheaper l =
        omega (
          arithℤ,
          ap total r.is,
          total_append r.front r.back,
          total_append r.front (r.ring ++ r.back),
          total_append r.ring r.back,
          sum (total r.front) (total r.back),
          sum (total r.front) (total (r.ring ++ r.back)),
          sum (total r.ring) (total r.back),
        )

  cut_down : (fuel : ℕ) (es : List Edge) (v : ℕ) → length es < fuel → Chain net u es v → Short net u v n (total es) ⊎ NegativeCycle net u
  cut_down zero es v k c = absurd (omega arith)
  cut_down (suc fuel) es v k c =
      elim (dec_le n (length es)) [
        | no q ↦ inl (record { walk = es; leads = c; few = omega arith; cheap = omega arithℤ })
        | yes q ↦
            let r = round es v c q in
            elim (le_or_lt (pos 0) (total r.ring)) [
              | inr l ↦ inr (record { at = r.mid; lead = r.front; leads = r.enters; cycle = r.ring; closed = r.turns; negative = omega arithℤ })
              | inl l ↦
                  let rest = chain_append net r.front r.back u r.mid v r.enters r.leaves in
                  elim (cut_down fuel (r.front ++ r.back) v (omega (arith, shorter es v r)) rest) [
                    | inl t ↦ inl (record { walk = t.walk; leads = t.leads; few = t.few; cheap = omega (arithℤ, t.cheap, cheaper es v r l) })
                    | inr z ↦ inr z
                  ]
            ]
      ]

  pub shorten : (es : List Edge) (v : ℕ) → Chain net u es v → Short net u v n (total es) ⊎ NegativeCycle net u
  shorten es v c = cut_down (suc (length es)) es v (omega arith) c

-- With weights of at most W either way, a walk costs at most as many of them as it has edges.
module _ (net : Network) (W : ℕ) (weights : (e : Edge) → net e → nat_abs e.weight ≤ W) where
  total_within : (es : List Edge) (u v : ℕ) → Chain net u es v → nat_abs (total es) ≤ length es * W
  total_within [] u v c = omega arith
  total_within (e ∷ es) u v c = omega (arith, abs_add e.weight (total es), weights e c.0, total_within es e.to v c.2)

  -- Without a negative cycle some walk costs no more, and at most n - 1 of them.
  pub short : (n : ℕ) → Below net n → (u : ℕ) → u < n → ¬ NegativeCycle net u → (es : List Edge) (v : ℕ) → Chain net u es v
      → (fs : List Edge) × Chain net u fs v × (total fs ≤ℤ total es) × (nat_abs (total fs) ≤ (n - 1) * W)
  short n below u inside none es v c =
      elim (shorten net n below u inside es v c) [
        | inl t ↦
            let few : length t.walk ≤ n - 1 = omega (arith, t.few) in
            (t.walk, t.leads, t.cheap, omega (arith, total_within t.walk u v t.leads, mul-le-mul_right W few))
        | inr z ↦ absurd (none z)
      ]
