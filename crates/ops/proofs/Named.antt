-- What holds of an op by its name holds of its code; and the tests of `admits_fields`, by its ways out. Rests on machine's Admitted.
use mathlib.Core.Path.{◌≡◌, refl, sym, ap, ◌∙◌}
use mathlib.Core.Logic.{◌≢◌, ◌⊎◌, inl, inr}
use mathlib.Core.List.{[], ◌∷◌}
use mathlib.Core.Bool.{Bool, false, ◌&&◌, and-true}
use Prim.Native.Nat.{ℕ, ◌<◌, ◌≤◌}
use native.Mathlib.Omega.{arith}
use lib.Dec.{ltb, eqb}
use lib.ListN.{get_or}
use borrow.Author.Tests.{lt-ltb, le-ltb, eq-eqb, ne_eqb}
use Rattle.machine.specs.Word.{zeros_kept, decode_at, present, admissible_at}
use Rattle.machine.proofs.Admitted.{is_open, is_rest}
use Rattle.ops.specs.declared.Op.{Op}
use Rattle.ops.specs.declared.Op.TheVariants.{Set, Copy, Add, Less, Equal, Both, MoveIf, Open}
use Rattle.ops.specs.Op.{code}

named : (o : Op) → get_or (Set ∷ Copy ∷ Add ∷ Less ∷ Equal ∷ Both ∷ MoveIf ∷ Open ∷ []) (code o) Set ≡ o
named Set = refl
named Copy = refl
named Add = refl
named Less = refl
named Equal = refl
named Both = refl
named MoveIf = refl
named Open = refl

pub below_eight : (o : Op) → code o < 8
below_eight Set = omega arith
below_eight Copy = omega arith
below_eight Add = omega arith
below_eight Less = omega arith
below_eight Equal = omega arith
below_eight Both = omega arith
below_eight MoveIf = omega arith
below_eight Open = omega arith

-- An op of another name has another code.
pub other : (o p : Op) → o ≢ p → code o ≢ code p
other o p n e = n (sym (named o) ∙ ap (λ (k : ℕ). get_or (Set ∷ Copy ∷ Add ∷ Less ∷ Equal ∷ Both ∷ MoveIf ∷ Open ∷ []) k Set) e ∙ named p)

module _ (n : ℕ) (d a b : ℕ) where
  abbrev Test : Op → Bool
  Test o = admissible_at n (code o) d a b

  pub open_not : {o : Op} {t : Bool} → o ≡ Open → ((d ≡ 0) × (b ≢ 0)) ⊎ (d ≢ 0) → t ≡ false → t ≡ Test o
  open_not e (inl p) f = f ∙ sym (is_open n _ d a b (ap code e) ∙ simp (eq-eqb d 0 p.0, ne_eqb b 0 p.1))
  open_not e (inr p) f = f ∙ sym (is_open n _ d a b (ap code e) ∙ simp (ne_eqb d 0 p))

  pub is_copy : {o : Op} → o ≡ Copy → Test o ≡ (eqb b 0 && (ltb d n && ltb a n))
  unfolding decode_at zeros_kept present admissible_at
  is_copy e = rw e (simp and-true)

  pub copy_not : {o : Op} {t : Bool} → o ≡ Copy → ((b ≡ 0) × (n ≤ d)) ⊎ (b ≢ 0) → t ≡ false → t ≡ Test o
  copy_not e (inl p) f = f ∙ sym (is_copy e ∙ simp (eq-eqb b 0 p.0, le-ltb d n p.1))
  copy_not e (inr p) f = f ∙ sym (is_copy e ∙ simp (ne_eqb b 0 p))

  pub is_three : {o : Op} → o ≢ Set → o ≢ Copy → o ≢ Open → Test o ≡ (ltb d n && (ltb a n && ltb b n))
  is_three {o} s c p =
      let l = below_eight o in
      is_rest n (code o) d a b (omega arith) (other o Set s) (other o Open p) (λ e. absurd (other o Copy c e))

  pub three_not : {o : Op} {t : Bool} → o ≢ Set → o ≢ Copy → o ≢ Open → ((d < n) × (n ≤ a)) ⊎ (n ≤ d) → t ≡ false → t ≡ Test o
  three_not s c p (inl q) f = f ∙ sym (is_three s c p ∙ simp (lt-ltb d n q.0, le-ltb a n q.1))
  three_not s c p (inr q) f = f ∙ sym (is_three s c p ∙ simp (le-ltb d n q))
