-- Method 2's table as intake lays it, FAR where the word is -1, has the edges that the words describe, for entries within the limits.
-- Rests on the range of an entry.
use mathlib.Core.Path.{◌≡◌, refl, ap}
use mathlib.Core.Logic.{◌↔◌, ◌⊎◌, inl, inr, ⊎_elim, ◌≢◌}
use mathlib.Core.List.{List}
use Prim.Native.Nat.{ℕ, zero, suc, ◌+◌, ◌*◌, ◌<◌, ◌≤◌}
use native.Mathlib.Omega.{arith}
use lib.Dec.{leb→le}
use lib.IntN.{ℤ, pos, negsuc, nat_abs, pos-ne-negsuc}
use lib.ListN.{get_or}
use lib.Signed.{◌≤ℤ◌}
use Rattle.plans.specs.Limits.{far, most_weight}
use Rattle.limits.specs.Word.{weight_of}
use Rattle.intake.specs.Intake.{or_far}
use Rattle.graph.specs.Walk.{Edge}
use Rattle.graph.specs.Dijkstra.{table_network}
use Rattle.demands.specs.Network.{Entered}

-- The weight from u to v, FAR where there is no edge.
abbrev pub table_of : (n : ℕ) (words : List ℕ) (u v : ℕ) → ℕ
table_of n ws u v = nat_abs (or_far (weight_of (get_or ws (u * n + v) 0)))

-- ---- one entry

-- -1, or from 0 to the most.
abbrev pub Range : ℤ → Type 0
Range z = (z ≡ negsuc 0) ⊎ ((pos 0 ≤ℤ z) × (z ≤ℤ pos most_weight))

most : (n : ℕ) → Range (pos n) → n ≤ most_weight
most n = ⊎_elim (λ (e : pos n ≡ negsuc 0). absurd (pos-ne-negsuc n 0 e)) (λ p. leb→le n most_weight p.1.le)

none_lower : (n : ℕ) → Range (negsuc (suc n)) → ⊥
none_lower n = ⊎_elim (λ (e : negsuc (suc n) ≡ negsuc 0). omega (arith, ap nat_abs e)) (λ p. p.0.le)

-- Either way within the most.
pub in_range_is : (z : ℤ) → Range z → nat_abs z ≤ most_weight
in_range_is (pos n) r = most n r
in_range_is (negsuc zero) r = omega arith
in_range_is (negsuc (suc n)) r = absurd (none_lower n r)

-- It is laid as a natural number: a weight, or FAR.
pub natural : (z : ℤ) → Range z → (or_far z ≡ pos (nat_abs (or_far z))) × ((nat_abs (or_far z) ≤ most_weight) ⊎ (nat_abs (or_far z) ≡ nat_abs far))
natural (pos n) r = (refl, inl (most n r))
natural (negsuc zero) r = (refl, inr refl)
natural (negsuc (suc n)) r = absurd (none_lower n r)

-- It is no FAR just where it is not -1, and is then laid as it is.
kept : (z w : ℤ) → Range z → ((nat_abs (or_far z) ≢ nat_abs far) × (w ≡ pos (nat_abs (or_far z)))) ↔ ((z ≢ negsuc 0) × (w ≡ z))
kept (pos n) w r = (
  λ p. (λ e. pos-ne-negsuc n 0 e, p.1),
  λ p. (λ e. omega (arith, most n r), p.1),
)
kept (negsuc zero) w r = (λ p. absurd (p.0 refl), λ p. absurd (p.0 refl))
kept (negsuc (suc n)) w r = absurd (none_lower n r)

-- ---- the table

pub same_edges : (n : ℕ) (ws : List ℕ) → ((u v : ℕ) → u < n → v < n → Range (weight_of (get_or ws (u * n + v) 0)))
    → (e : Edge) → table_network (nat_abs far) n (table_of n ws) e ↔ Entered n ws e
same_edges n ws range e = (
  λ p. let q = (kept _ e.weight (range e.from e.to p.0 p.1)).0 (p.2, p.3) in
      record { from_there = p.0; to_there = p.1; entered = q.0; weighs = q.1 },
  λ p. let q = (kept _ e.weight (range e.from e.to p.from_there p.to_there)).1 (p.entered, p.weighs) in
      (p.from_there, p.to_there, q.0, q.1),
)
