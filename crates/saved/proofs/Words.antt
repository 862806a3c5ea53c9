-- Which words are converted, and to what, by the ways out of `may_convert` and `convert_word`.
-- Rests on the machine's laws of signed numbers.
use mathlib.Core.Path.{◌≡◌, ap, ◌∙◌}
use mathlib.Core.Bool.{true, false, and-eq-true_iff}
use Prim.Native.Nat.{ℕ, zero, suc, ◌*◌, ◌-◌, ◌^◌, ◌<◌, ◌≤◌}
use native.Mathlib.Omega.{arith}
use lib.Dec.{leb→le}
use lib.IntN.{ℤ, pos, negsuc, neg_ℤ, ◌*ℤ◌}
use lib.Signed.{lt_z, le_z, mag}
use mir.Syntax.{w64}
use mir.Val.{SFits, of_z}
use mir.Facts.{sfits_lit}
use Rattle.machine.proofs.Tested.{back, kept, not_less, eq_test, ne_test}
use Rattle.plans.specs.Limits.{far}
use Rattle.saved.specs.Saved.{old_far, old_most, factor, convertible, converted}

-- ---- a word z as it is lent

module _ (z : ℤ) (fits : SFits w64 z) where
  pub mark_converts : of_z w64 z ≡ of_z w64 old_far → true ≡ convertible z
  unfolding convertible
  mark_converts e = rw (eq_test z old_far fits (sfits_lit tt) e)

  pub mark_becomes : of_z w64 z ≡ of_z w64 old_far → far ≡ converted z
  unfolding converted
  mark_becomes e = rw (eq_test z old_far fits (sfits_lit tt) e)

  module _ (no_mark : of_z w64 z ≡ of_z w64 old_far → ⊥) where
    pub too_low : lt_z (back z) (negsuc (old_most - 1)) ≡ true → false ≡ convertible z
    unfolding convertible
    too_low e = rw (ne_test z old_far no_mark, not_less z (negsuc (old_most - 1)) true (rw (kept z fits.sfits) at e))

    pub not_low : lt_z (back z) (negsuc (old_most - 1)) ≡ false → le_z (back z) (pos old_most) ≡ convertible z
    unfolding convertible
    not_low e = rw (ne_test z old_far no_mark, not_less z (negsuc (old_most - 1)) false (rw (kept z fits.sfits) at e), kept z fits.sfits)

-- ---- the product fits a cell

no_larger : (r : ℕ) → mag (neg_ℤ (pos r)) ≤ r
no_larger zero = omega arith
no_larger (suc r) = omega arith

small : (z : ℤ) → le_z (negsuc (old_most - 1)) z ≡ true → le_z z (pos old_most) ≡ true → mag (pos factor *ℤ z) < 2 ^ 63
small (pos n) low high = omega (arith, leb→le n old_most (rw high tt))
small (negsuc n) low high = omega (arith, leb→le n (old_most - 1) (rw low tt), no_larger (factor * suc n))

module _ (z : ℤ) (fits : SFits w64 z) (fine : convertible z ≡ true) (no_mark : of_z w64 z ≡ of_z w64 old_far → ⊥) where
  ends : (le_z (negsuc (old_most - 1)) z ≡ true) × (le_z z (pos old_most) ≡ true)
  unfolding convertible
  ends = (and-eq-true_iff _ _).0 (rw (ne_test z old_far no_mark) at fine)

  pub product_fits : SFits w64 (pos factor *ℤ back z)
  product_fits = rw (kept z fits.sfits) (record { sfits = small z ends.0 ends.1 })

  pub product_becomes : back (pos factor *ℤ back z) ≡ converted z
  unfolding converted
  product_becomes =
      rw (ne_test z old_far no_mark)
      (kept (pos factor *ℤ back z) product_fits.sfits ∙ ap (λ (x : ℤ). pos factor *ℤ x) (kept z fits.sfits))
