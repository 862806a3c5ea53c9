-- Method 5's lines after the check, on named stores: predecessors are where the parents' edges begin, and the route is the parents followed back.
-- Rests on edges and on marks.
use mathlib.Core.Path.{◌≡◌, refl, ◌∙◌}
use mathlib.Core.Logic.{inl, inr}
use mathlib.Core.Bool.{cond}
use Prim.Native.Nat.{ℕ, suc, ◌-◌, ◌<◌}
use native.Mathlib.Nat.{eq-or-lt_of_le, le_of_suc-le-suc}
use native.Mathlib.Omega.{arith}
use borrow.Author.Tests.{eq-eqb, ne_eqb}
use lib.IntN.{ℤ, pos, negsuc}
use Rattle.machine.specs.Effect.{eq_z}
use Rattle.plans.specs.Outline.{middle, Outline, counted_to, start, instructions}
use Rattle.plans.specs.Method5.{X, Z, B, R, trace, follow, show}
use Rattle.graph.specs.Walk.{Edge}
use Rattle.graph.specs.BellmanFord.{State}
use Rattle.graph.specs.Route.{origin, behind, shown}
use Rattle.graph.proofs.Marks.{Mark}
use Rattle.graph.proofs.Route.{behind_below}
use Rattle.methods.specs.Edges.{Limited}
use Rattle.methods.proofs.Steps.{Claim, Runs, loop}
use Rattle.methods.proofs.Names.{pair, Store}
use Rattle.methods.proofs.Bits.{pick_bit}
use Rattle.methods.proofs.Filled.{upto, upto_zero, upto_all, upto_find, fill_none, fill, Refilled, refill_none, refill}
use Rattle.methods.proofs.OverEdges.{steps}
use Rattle.methods.proofs.Edges.{Holds}

-- ---- the predecessor of v, as far as the edges below i tell: where the edge of its mark begins, or v itself

module _ (edge : ℕ → Edge) (v : ℕ) where
  abbrev begin : ℕ → ℤ
  begin k = pos (edge k).from

  abbrev itself : ℕ → ℤ
  itself k = pos v

  abbrev traced : (i : ℕ) (mark : ℤ) → ℤ
  traced i (pos k) = upto i begin itself k
  traced i (negsuc k) = pos v

  traced_none : (mark : ℤ) → pos v ≡ traced 0 mark
  traced_none (pos k) = upto_zero begin itself k
  traced_none (negsuc k) = refl

  traced_suc : (i : ℕ) (mark : ℤ) → cond (eq_z mark (pos i)) (begin i) (traced i mark) ≡ traced (suc i) mark
  traced_suc i (pos k) = upto_find begin itself i k
  traced_suc i (negsuc k) = refl

  traced_all : (m : ℕ) {mark : ℤ} → Mark m mark → traced m mark ≡ pos (origin edge v mark)
  traced_all m (inl e) = rw e refl
  traced_all m (inr (k, l, e)) = rw e (upto_all begin itself m k l)

module _ (far limit : ℕ) (edge : ℕ → Edge) (n m source z : ℕ) (st : State) (flag : ℤ) where
  -- The outline's instructions for edge i, or for place i.
  abbrev Does : (i : ℕ) → Outline → Claim Store → Claim Store
  Does i o = Runs (steps far limit) (instructions pair (pos far) n m source o (counted_to middle i start))

  -- What method 1 has found, which stays.
  abbrev Found : Store → Type 0
  Found = Holds far edge n m st flag

  -- ---- the predecessors

  -- The vertices below k have their own numbers.
  abbrev Copied : (k : ℕ) → Store → Type 0
  Copied k t = Found t × (t (Z 0) ≡ pos z) × ((v : ℕ) → v < k → t (B v) ≡ pos v)

  -- The edges below i are traced.
  abbrev Traced : (i : ℕ) → Store → Type 0
  Traced i t = Found t × (t (Z 0) ≡ pos z) × ((v : ℕ) → v < n → t (B v) ≡ traced edge v i (st.parent v))

  -- Edge i too, at the vertices below k.
  abbrev Tracing : (i k : ℕ) → Store → Type 0
  Tracing i k t =
      Found t
      × (t (Z 0) ≡ pos z)
      × (t (X 3) ≡ pos i)
      × Refilled n k (λ v. traced edge v (suc i) (st.parent v)) (λ v. traced edge v i (st.parent v)) (λ v. t (B v))

  trace_runs : (i : ℕ) → i < m → (s : Store) → Traced i s → Does i trace (Traced (suc i)) s
  unfolding instructions
  trace_runs i l s (h, aim, b) =
      loop (steps far limit) (Tracing i) n _ _ _ (h, aim, refl, refill_none b)
      (λ k t lk (h, aim, x3, b). (
        h,
        aim,
        x3,
        refill k lk
            (λ old. simp (pick_bit, h.parent k lk, x3, h.fixed.edges.from i l, old) (traced_suc edge k i (st.parent k))) b,
      ))
      (λ t (h, aim, _, b). (h, aim, b.done))

  -- ---- the route

  -- The vertex looked for at place k, and the predecessor of a vertex.
  abbrev sought : (k : ℕ) → ℕ
  sought = behind edge st.parent z

  abbrev predecessor : (v : ℕ) → ℤ
  predecessor v = pos (origin edge v (st.parent v))

  -- The places below k are filled.
  abbrev Followed : (k : ℕ) → Store → Type 0
  Followed k t =
      Found t
      × ((v : ℕ) → v < n → t (B v) ≡ predecessor v)
      × (t (X 1) ≡ pos (sought k))
      × ((j : ℕ) → j < k → t (R j) ≡ shown edge st.parent z j)

  -- Place k held `old`, and is compared with the vertices below v.
  abbrev Following : (k : ℕ) (old : ℤ) (v : ℕ) → Store → Type 0
  Following k old v t =
      Found t
      × ((v : ℕ) → v < n → t (B v) ≡ predecessor v)
      × (t (X 2) ≡ pos (sought k))
      × (t (X 1) ≡ upto v predecessor (λ v. pos (sought k)) (sought k))
      × (t (R k) ≡ upto v st.parent (λ v. old) (sought k))
      × ((j : ℕ) → j < k → t (R j) ≡ shown edge st.parent z j)

  -- All places are.
  abbrev pub Shown : Store → Type 0
  Shown t = Found t × ((k : ℕ) → k < n - 1 → t (R k) ≡ shown edge st.parent z k)

  module _ (limited : Limited limit edge n m) (marked : (v : ℕ) → Mark m (st.parent v)) (there : z < n) where
    -- The vertex is found, so that nothing of what the place held is left.
    follow_runs : (k : ℕ) (s : Store) → Followed k s → Does k follow (Followed (suc k)) s
    unfolding instructions
    follow_runs k s (h, b, x1, r) =
        let u = sought k in
        let self : ℕ → ℤ = λ v. pos u in
        let old : ℕ → ℤ = λ v. s (R k) in
        let inside = behind_below edge m n limited.from_below st.parent marked z there k in
        loop (steps far limit) (Following k (s (R k))) n _ _ _
        (h, b, x1, x1 ∙ upto_zero predecessor self u, upto_zero st.parent old u, r)
        (λ v t l (h, b, x2, x1, rk, r). (
          h,
          b,
          x2,
          simp (pick_bit, x2, x1, h.fixed.vertex v l, b v l) (upto_find predecessor self v u),
          simp (eq-eqb k k refl, pick_bit, x2, rk, h.fixed.vertex v l, h.parent v l) (upto_find st.parent old v u),
          λ j q. rw (ne_eqb k j (omega arith)) (r j q),
        ))
        (λ t (h, b, _, x1, rk, r). (
          h,
          b,
          x1 ∙ upto_all predecessor self n u inside,
          λ j q.
              elim (eq-or-lt_of_le (le_of_suc-le-suc q)) [
                | inl e ↦ rw e (rk ∙ upto_all st.parent old n u inside)
                | inr q ↦ r j q
              ],
        ))

    -- The last line opens a cell and changes nothing.
    pub show_runs : (s : Store) → Found s → s (Z 0) ≡ pos z
        → Runs (steps far limit) (instructions pair (pos far) n m source show start) Shown s
    unfolding instructions
    show_runs s h aim =
        loop (steps far limit) Copied n _ _ _ (h, aim, fill_none _ _)
        (λ k t l (h, aim, b). (h, aim, fill k (h.fixed.vertex k l) b))
        (λ t (h, aim, b).
        loop (steps far limit) Traced m _ _ _ (h, aim, λ v l. b v l ∙ traced_none edge v (st.parent v))
        (λ i t l. trace_runs i l t)
        (λ t (h, aim, b).
        loop (steps far limit) Followed (n - 1) _ _ _ (h, λ v l. b v l ∙ traced_all edge v m (marked v), aim, fill_none _ _)
        (λ k t l. follow_runs k t)
        (λ t (h, _, _, r). (h, r))))
