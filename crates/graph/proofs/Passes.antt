-- Passes of any kind that take every edge into account: after n - 1 an edge can still gain exactly where there is a negative cycle, and
-- else all is shortest. Rests on steps, parents and the certificate.
use mathlib.Core.Path.{◌≡◌, refl, ap}
use mathlib.Core.Logic.{inl, inr, ◌↔◌}
use mathlib.Core.Bool.{Bool, true, false}
use mathlib.Core.List.{List, [], ◌∷◌}
use Prim.Native.Nat.{ℕ, suc, ◌+◌, ◌-◌, ◌<◌, ◌≤◌}
use native.Mathlib.Omega.{arith}
use lib.IntN.{ℤ, pos, ◌+ℤ◌}
use lib.Signed.{◌≤ℤ◌, ◌<ℤ◌}
use lib.ListN.{length}
use Rattle.lists.proofs.Test.{by_test}
use Rattle.graph.specs.Walk.{Edge, Network, Chain, total, NegativeCycle, Below}
use Rattle.graph.specs.Shortest.{Shortest}
use Rattle.graph.specs.BellmanFord.{network, numbered, State, offer}
use Rattle.graph.proofs.Int.{arithℤ, sum, le_or_lt}
use Rattle.graph.proofs.Walk.{WalkOf, one_more, shorten}
use Rattle.graph.proofs.Certificate.{Closed, no_negative_cycle}
use Rattle.graph.proofs.Parents as parents
use Rattle.graph.proofs.Relax.{Inv}

-- The states after 0, 1, .. passes.
pub record Series (edge : ℕ → Edge) (m n s : ℕ) (far : ℤ) (after : ℕ → State) : Type 0 where
  pub holds : (p : ℕ) → Inv edge m n s far (after p)
  -- What an edge offers from a reached vertex is below far, and the next pass takes it into account.
  pub near : (p : ℕ) → p ≤ n - 1 → (i : ℕ) → i < m → (after p).dist (edge i).from <ℤ far → offer edge i (after p) <ℤ far
  pub relaxes : (p i : ℕ) → i < m → (after p).dist (edge i).from <ℤ far → (after (suc p)).dist (edge i).to ≤ℤ offer edge i (after p)

module _ (edge : ℕ → Edge) (m n s : ℕ) (far : ℤ) (after : ℕ → State) (below : Below (network edge m) n) (inside : s < n)
    (series : Series edge m n s far after) where
  open series use {holds, near, relaxes}

  abbrev net : Network
  net = network edge m

  abbrev end : State
  end = after (n - 1)

  onward : (p : ℕ) → p < n - 1 → (e : Edge) → net e → (after p).dist e.from <ℤ far →
      ((after (suc p)).dist e.to <ℤ far) × ((after (suc p)).dist e.to ≤ℤ ((after p).dist e.from +ℤ e.weight))
  onward p l e (i, im, q) = rw q (λ h. let r = relaxes p i im h in (omega (arithℤ, near p (omega arith) i im h), r))

  -- As many passes as a walk has edges take it into account.
  reach : (es : List Edge) (u v p q : ℕ) → Chain net u es v → p + length es ≡ q → q ≤ n - 1 → (after p).dist u <ℤ far →
      ((after q).dist v <ℤ far) × ((after q).dist v ≤ℤ ((after p).dist u +ℤ total es))
  reach [] u v p q c l k h =
      let all : p ≡ q = omega arith in
      rw (← all) (rw (← c) (h, omega (arithℤ, sum ((after p).dist u) (pos 0))))
  reach (e ∷ es) u v p q c l k h =
      let same = ap (after p).dist c.1 in
      let first = onward p (omega arith) e c.0 (omega arithℤ) in
      let rest = reach es e.to v (suc p) q c.2 (omega arith) k first.0 in (
        rest.0,
        omega (
          arithℤ,
          rest.1,
          sum ((after (suc p)).dist e.to) (total es),
          sum ((after p).dist e.from) e.weight,
          sum e.weight (total es),
          sum ((after p).dist u) (e.weight +ℤ total es),
        ),
      )

  -- After p passes a distance is at most each walk's total of at most p edges.
  pub upto : (p : ℕ) → p ≤ n - 1 → (es : List Edge) (v : ℕ) → Chain (network edge m) s es v → length es ≤ p →
      ((after p).dist v <ℤ far) × ((after p).dist v ≤ℤ total es)
  upto p k es v c l =
      let q = p - length es in
      let i = (holds q).sound in
      let r = reach es s v q p c (omega arith) k i.begun in
      (r.0, omega (arithℤ, r.1, i.start, sum ((after q).dist s) (total es)))

  -- An edge that can still be relaxed ends a walk that costs less than each short one.
  cycle : (i : ℕ) → i < m → end.dist (edge i).from <ℤ far → offer edge i end <ℤ end.dist (edge i).to → NegativeCycle net s
  cycle i im h g =
      elim (shorten net n below s inside w.0 (edge i).to w.1) [
        | inr z ↦ z
        | inl t ↦ absurd (omega (arithℤ, (upto (n - 1) (omega arith) t.walk (edge i).to t.leads (omega (arith, t.few))).1, t.cheap, w.2))
      ]
    where
      w : WalkOf net s (edge i).to (offer edge i end)
      w =
          one_more net s (edge i).to (edge i) (end.dist (edge i).from) (offer edge i end) (i, im, refl) refl refl
          ((holds (n - 1)).sound.walks (edge i).from (below (edge i) (i, im, refl)).0 h)

  -- A test for an edge that can still be relaxed.
  module _ (test : Bool)
      (yes : test ≡ true → (i : ℕ) × (i < m) × (end.dist (edge i).from <ℤ far) × (offer edge i end <ℤ end.dist (edge i).to))
      (no : test ≡ false → (i : ℕ) → i < m → end.dist (edge i).from <ℤ far → end.dist (edge i).to ≤ℤ offer edge i end) where
    closed : test ≡ false → Closed net far end.dist
    closed none e (i, im, q) = rw q (λ h. let r = no none i im h in (omega (arithℤ, near (n - 1) (omega arith) i im h), r))

    pub negative_cycle : (test ≡ true) ↔ NegativeCycle (network edge m) s
    negative_cycle = (
      λ e. let r = yes e in cycle r.0 r.1 r.2 r.3,
      λ z. by_test test (λ e. e) (λ e. absurd (no_negative_cycle net far n s end.dist (closed e) (holds (n - 1)).sound z)),
    )

    pub no_cycle : (test ≡ false) ↔ ¬ NegativeCycle (network edge m) s
    no_cycle = (
      λ e. no_negative_cycle net far n s end.dist (closed e) (holds (n - 1)).sound,
      λ f. by_test test (λ e. absurd (f (negative_cycle.0 e))) (λ e. e),
    )

    pub shortest : test ≡ false → Shortest (network edge m) (numbered edge m) far n s (after (n - 1)).dist (after (n - 1)).parent
    shortest e =
        parents.shortest net (numbered edge m) far n s end.dist end.parent below (closed e) inv.parents (omega (arithℤ, inv.sound.begun, zero_at)) zero_at
        (λ v l. inv.low v) (inv.root zero_at) (λ v l. inv.blank v)
      where
        inv : Inv edge m n s far end
        inv = holds (n - 1)

        zero_at : end.dist s ≡ pos 0
        zero_at =
            let w = inv.sound.walks s inside inv.sound.begun in
            elim (le_or_lt (pos 0) (total w.0)) [
              | inl h ↦ omega (arithℤ, w.2, inv.sound.start)
              | inr h ↦ absurd (no_cycle.0 e (record { at = s; lead = []; leads = refl; cycle = w.0; closed = w.1; negative = h }))
            ]
