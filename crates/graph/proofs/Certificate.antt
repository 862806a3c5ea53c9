-- Distances that carry their own proof: `Sound`, that some walk has each as its total, and `Closed`, that no edge would lower one, make them least totals.
-- Rests on walks and on the integer kit.
use mathlib.Core.Path.{◌≡◌, ap}
use mathlib.Core.Logic.{◌≢◌, inl, inr}
use mathlib.Core.List.{List, [], ◌∷◌}
use Prim.Native.Nat.{ℕ, ◌<◌}
use lib.IntN.{ℤ, pos, ◌+ℤ◌}
use lib.Signed.{◌≤ℤ◌, ◌<ℤ◌}
use Rattle.graph.specs.Walk.{Edge, Network, Chain, total, Least, NegativeCycle}
use Rattle.graph.specs.Shortest.{Distances}
use Rattle.graph.proofs.Int.{arithℤ, sum, le_or_lt}
use Rattle.graph.proofs.Walk.{WalkOf}

-- A vertex of distance `far` or more is not reached. Of vertices from n on nothing is said.
pub record Sound (net : Network) (far : ℤ) (n s : ℕ) (dist : ℕ → ℤ) : Type 0 where
  pub start : dist s ≤ℤ pos 0
  pub begun : dist s <ℤ far
  pub walks : (v : ℕ) → v < n → dist v <ℤ far → WalkOf net s v (dist v)

-- An edge from a reached vertex leads to a reached one, and would not lower it.
abbrev pub Closed : Network → ℤ → (ℕ → ℤ) → Type 0
Closed net far dist = (e : Edge) → net e → dist e.from <ℤ far → (dist e.to <ℤ far) × (dist e.to ≤ℤ (dist e.from +ℤ e.weight))

-- A distance that is not `far` is below it.
pub near : {d far : ℤ} → d ≤ℤ far → d ≢ far → d <ℤ far
near {d} {far} low h = elim (le_or_lt far d) [ inl k ↦ absurd (h (omega arithℤ)) | inr k ↦ k ]

-- Walks that no walk undercuts.
pub undercut_by_none : (net : Network) (far : ℤ) (n s : ℕ) (dist : ℕ → ℤ) → ((v : ℕ) → v < n → dist v ≤ℤ far)
    → ((v : ℕ) → v < n → dist v <ℤ far → WalkOf net s v (dist v))
    → ((es : List Edge) (v : ℕ) → v < n → Chain net s es v → (dist v <ℤ far) × (dist v ≤ℤ total es)) → Distances net far n s dist
undercut_by_none net far n s dist low walks least =
    record {
      reached = λ v l h.
          let w = walks v l (near (low v l) h) in
          (w.0, record { leads = w.1; sums = w.2; least = λ fs c. (least fs v l c).1 });
      unreached = λ v l. (
        λ (e : dist v ≡ far) w. omega (arithℤ, (least w.0 v l w.1).0),
        λ f. elim (le_or_lt far (dist v)) [ inl h ↦ omega (arithℤ, low v l) | inr h ↦ absurd (f (let w = walks v l h in (w.0, w.1))) ],
      );
    }

module _ (net : Network) (far : ℤ) (n s : ℕ) (dist : ℕ → ℤ) (closed : Closed net far dist) where
  along : (es : List Edge) (u v : ℕ) → Chain net u es v → dist u <ℤ far → (dist v <ℤ far) × (dist v ≤ℤ (dist u +ℤ total es))
  along [] u v c h = rw (← c) (h, omega (arithℤ, sum (dist u) (pos 0)))
  along (e ∷ es) u v c h =
      let same = ap dist c.1 in
      let first = closed e c.0 (omega arithℤ) in
      let rest = along es e.to v c.2 first.0 in (
        rest.0,
        omega (arithℤ, sum (dist e.to) (total es), sum (dist e.from) e.weight, sum e.weight (total es), sum (dist u) (e.weight +ℤ total es)),
      )

  module _ (sound : Sound net far n s dist) where
    -- A walk from s reaches its end, and costs no less than the distance.
    pub closed_least : (es : List Edge) (v : ℕ) → Chain net s es v → (dist v <ℤ far) × (dist v ≤ℤ total es)
    closed_least es v c =
        let a = along es s v c sound.begun in
        (a.0, omega (arithℤ, sound.start, sum (dist s) (total es)))

    pub distances : ((v : ℕ) → v < n → dist v ≤ℤ far) → Distances net far n s dist
    distances low = undercut_by_none net far n s dist low sound.walks (λ es v l c. closed_least es v c)

    pub no_negative_cycle : ¬ NegativeCycle net s
    no_negative_cycle z =
        let r = closed_least z.lead z.at z.leads in
        let a = along z.cycle z.at z.at z.closed r.0 in
        omega (arithℤ, z.negative, sum (dist z.at) (total z.cycle))

-- There is one least total.
pub least_unique : {net : Network} {u v : ℕ} {c d : ℤ} {es fs : List Edge} → Least net u v c es → Least net u v d fs → c ≡ d
least_unique {es} {fs} p q = omega (arithℤ, p.least fs q.leads, q.least es p.leads, p.sums, q.sums)
