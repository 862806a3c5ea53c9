-- Instructions carried out on depths, a function from addresses, with the greatest depth so far; and none deeper than `most`.
-- For any addresses with a test `same` of two of them. Rests on methods' Steps and on the machine's depths.
use mathlib.Core.Path.{◌≡◌, refl, sym, subst}
use mathlib.Core.Bool.{Bool}
use mathlib.Core.List.{List, [], ◌∷◌}
use Prim.Native.Nat.{ℕ, ◌≤◌, max}
use native.Mathlib.Omega.{arith}
use Rattle.machine.specs.Instruction.{Instruction}
use Rattle.machine.specs.Depth.{target, depth, taken, greatest_from, greatest}
use Rattle.methods.proofs.Steps.{Kind, Runs}

-- The cells' depths and the greatest depth so far.
abbrev pub Depths : Type 0 → Type 0
Depths A = (A → ℕ) × ℕ

-- An instruction's depth x, as `depths` needs it, and what follows.
pub named : {P R : ℕ → Type 0} (x : ℕ) → P x → R x → (x : ℕ) × P x × R x
named x p r = (x, p, r)

-- An instruction's depth of which just a bound is known.
pub within : {R : ℕ → Type 0} {most x : ℕ} (bound : ℕ) → x ≤ bound → bound ≤ most → ((y : ℕ) → y ≤ bound → R y)
    → (y : ℕ) × ((x ≡ y) × (y ≤ most)) × R y
within {x = x} bound l k f = (x, (refl, omega arith), f x l)

-- Nothing has been written.
abbrev pub fresh : {A : Type 0} → Depths A
fresh = (λ a. 0, 0)

module _ {A : Type 0} (same : A → A → Bool) where
  -- After an instruction of depth x.
  abbrev pub after : Instruction A → (x : ℕ) → Depths A → Depths A
  after i x t = (taken same (target i) x t.0, max t.1 x)

  module _ (most : ℕ) where
    -- Each instruction's depth is named: x.
    abbrev pub depths : Kind (Instruction A) (Depths A)
    depths =
        record {
          needs = λ i R t. (x : ℕ) × ((depth i t.0 ≡ x) × (x ≤ most)) × R (after i x t);
          needs_to = λ i M R f t (x, e, h). (x, e, f (after i x t) h);
        }

    bounded : (is : List (Instruction A)) (t : Depths A) → t.1 ≤ most → Runs depths is (λ t. most ≤ t.1) t
        → max t.1 (greatest_from same is t.0) ≡ most
    unfolding greatest_from
    bounded [] t l h = omega arith
    bounded (i ∷ is) t l (x, (e, k), h) =
        let r = bounded is (after i x t) (omega arith) h in
        subst (λ y. max t.1 (max y (greatest_from same is (taken same (target i) y t.0))) ≡ most) (sym e) (omega arith)

    -- The greatest depth is `most`, where it is at least that.
    pub greatest_is : (is : List (Instruction A)) → Runs depths is (λ t. most ≤ t.1) fresh → greatest same is ≡ most
    greatest_is is h = omega (arith, bounded is fresh (omega arith) h)
