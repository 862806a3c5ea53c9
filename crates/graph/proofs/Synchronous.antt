-- Jacobi passes are synchronous passes; and their rule, in words, leaves no choice: whatever follows it has the same distances and parents.
-- Rests on Jacobi.
use mathlib.Core.Path.{◌≡◌, refl, sym, ap, ◌∙◌}
use Prim.Native.Nat.{ℕ, zero, suc, ◌-◌, ◌*◌, ◌<◌, ◌≤◌}
use native.Mathlib.Omega.{arith}
use borrow.Author.Tests.{ltb-true, ltb-false}
use lib.Dec.{ltb}
use lib.IntN.{ℤ, pos, nat_abs, ◌+ℤ◌}
use lib.Signed.{◌<ℤ◌}
use Rattle.lists.proofs.Test.{by_test}
use Rattle.graph.specs.Walk.{Edge, Below}
use Rattle.graph.specs.BellmanFord.{network, State, start, offer}
use Rattle.graph.specs.Jacobi.{passes, jacobi, Rule, gained, stayed, Synchronous}
use Rattle.graph.proofs.Int.{arithℤ}
use Rattle.graph.proofs.Jacobi.{low, rule}

pub synchronous : (edge : ℕ → Edge) (m n s : ℕ) (far : ℤ) (W : ℕ) → Below (network edge m) n → s < n
    → ((i : ℕ) → i < m → nat_abs (edge i).weight ≤ W) → pos (n * W) <ℤ far
    → Synchronous edge m far n s (jacobi edge far n m s).dist (jacobi edge far n m s).parent
synchronous edge m n s far W below inside weights room =
    record {
      state = λ p. passes edge far m p (start far s);
      begins = λ v l. (refl, refl);
      passes = λ p k v l. rule edge m far _ (low edge m n s far W below inside weights room p) v;
      ends = λ v l. (refl, refl);
    }

-- Two states with the same distances and parents below n.
abbrev Same : (n : ℕ) (a b : State) → Type 0
Same n a b = (v : ℕ) → v < n → (a.dist v ≡ b.dist v) × (a.parent v ≡ b.parent v)

module _ (edge : ℕ → Edge) (m : ℕ) (far : ℤ) (n s : ℕ) where
  pub synchronous_carried : (dist dist' parent parent' : ℕ → ℤ)
      → ((v : ℕ) → v < n → dist' v ≡ dist v) → ((v : ℕ) → v < n → parent' v ≡ parent v)
      → Synchronous edge m far n s dist parent → Synchronous edge m far n s dist' parent'
  synchronous_carried dist dist' parent parent' d p h =
      record {
        state = h.state;
        begins = h.begins;
        passes = h.passes;
        ends = λ v l. (d v l ∙ (h.ends v l).0, p v l ∙ (h.ends v l).1);
      }

  module _ (below : Below (network edge m) n) where
    same_offer : (a b : State) → Same n a b → (i : ℕ) → i < m → offer edge i a ≡ offer edge i b
    same_offer a b same i l = ap (λ x. x +ℤ (edge i).weight) (same (edge i).from (below (edge i) (i, l, refl)).0).0

    same_reached : (a b : State) → Same n a b → (i : ℕ) → i < m → a.dist (edge i).from ≡ b.dist (edge i).from
    same_reached a b same i l = (same (edge i).from (below (edge i) (i, l, refl)).0).0

    -- A pass from states that are the same leaves states that are the same.
    step : (a a' b b' : State) → Same n a a' → (v : ℕ) → v < n → Rule edge m far a b v → Rule edge m far a' b' v
        → (b.dist v ≡ b'.dist v) × (b.parent v ≡ b'.parent v)
    step a a' b b' same v l (gained i im t h least first g d p) (gained j jm t' h' least' first' g' d' p') =
        let oi = same_offer a a' same i im in
        let oj = same_offer a a' same j jm in
        let ri = same_reached a a' same i im in
        let rj = same_reached a a' same j jm in
        by_test (ltb i j)
        (λ e. absurd (omega (arithℤ, first' i (ltb-true i j e) t (omega arithℤ), least j jm t' (omega arithℤ))))
        (λ e.
        by_test (ltb j i)
        (λ e'. absurd (omega (arithℤ, first j (ltb-true j i e') t' (omega arithℤ), least' i im t (omega arithℤ))))
        (λ e'.
        let is : i ≡ j = omega (arith, ltb-false i j e, ltb-false j i e') in
        (d ∙ oi ∙ ap (λ k. offer edge k a') is ∙ sym d', p ∙ ap pos is ∙ sym p')))
    step a a' b b' same v l (gained i im t h least first g d p) (stayed least' d' p') =
        absurd
        (omega (arithℤ, least' i im t (omega (arithℤ, same_reached a a' same i im)), same_offer a a' same i im, (same v l).0))
    step a a' b b' same v l (stayed least d p) (gained j jm t' h' least' first' g' d' p') =
        absurd
        (omega (arithℤ, least j jm t' (omega (arithℤ, same_reached a a' same j jm)), same_offer a a' same j jm, (same v l).0))
    step a a' b b' same v l (stayed least d p) (stayed least' d' p') = (d ∙ (same v l).0 ∙ sym d', p ∙ (same v l).1 ∙ sym p')

    module _ (dist dist' parent parent' : ℕ → ℤ) (h : Synchronous edge m far n s dist parent) (h' : Synchronous edge m far n s dist' parent') where
      after : (p : ℕ) → p ≤ n - 1 → Same n (h.state p) (h'.state p)
      after zero l v k =
          ((h.begins v k).0 ∙ sym (h'.begins v k).0, (h.begins v k).1 ∙ sym (h'.begins v k).1)
      after (suc p) l v k = step _ _ _ _ (after p (omega arith)) v k (h.passes p (omega arith) v k) (h'.passes p (omega arith) v k)

      pub one_result : (v : ℕ) → v < n → (dist v ≡ dist' v) × (parent v ≡ parent' v)
      one_result v k =
          let same = after (n - 1) (omega arith) v k in
          ((h.ends v k).0 ∙ same.0 ∙ sym (h'.ends v k).0, (h.ends v k).1 ∙ same.1 ∙ sym (h'.ends v k).1)
