-- Whether a bank of cells can carry out an op and its fields, by the ways out of `admits_fields`; and which addresses are then below
-- the cell count. Rests on Parted.
use mathlib.Core.Path.{◌≡◌, refl}
use mathlib.Core.Bool.{Bool, true, false, ◌&&◌, and-true}
use Prim.Native.Nat.{ℕ, zero, suc, ◌<◌, ◌≤◌}
use native.Mathlib.Omega.{arith}
use lib.Dec.{T, ltb, eqb, ltb→lt, eqb→eq}
use lib.ListN.{get_or-eq_default}
use mir.Facts.{and_yes}
use borrow.Author.Tests.{lt-ltb, le-ltb, ne_eqb, ltb-true, ltb-false}
use Rattle.machine.specs.Word.{zeros_kept, decode_at, present, admissible_at}
use Rattle.machine.proofs.Parted.{eight}

-- A spare field is 0, so below a count that another address is below.
copied : (n d a b : ℕ) → b ≡ 0 → admissible_at n 1 d a b ≡ (ltb d n && (ltb a n && ltb b n))
unfolding decode_at zeros_kept present admissible_at
copied zero d a b e = simp (e, le-ltb d 0 (omega arith))
copied (suc n) d a b e = simp (e, lt-ltb 0 (suc n) (omega arith))

module _ (n op d a b : ℕ) where
  pub is_over : 7 < op → admissible_at n op d a b ≡ false
  unfolding zeros_kept admissible_at
  is_over h = rw get_or-eq_default

  pub is_set : op ≡ 0 → admissible_at n op d a b ≡ ltb d n
  unfolding decode_at zeros_kept present admissible_at
  is_set e = rw e (and-true (ltb d n))

  pub is_open : op ≡ 7 → admissible_at n op d a b ≡ ((eqb d 0 && eqb b 0) && ltb a n)
  unfolding decode_at zeros_kept present admissible_at
  is_open e = simp (e, and-true)

  pub is_copy_b : op ≡ 1 → (b ≡ 0 → ⊥) → admissible_at n op d a b ≡ false
  unfolding decode_at zeros_kept present admissible_at
  is_copy_b e h = simp (e, ne_eqb b 0 h)

  pub is_rest : op ≤ 7 → (op ≡ 0 → ⊥) → (op ≡ 7 → ⊥) → (op ≡ 1 → b ≡ 0)
      → admissible_at n op d a b ≡ (ltb d n && (ltb a n && ltb b n))
  unfolding decode_at zeros_kept present admissible_at
  is_rest h n0 n7 z =
      eight
      (λ (o : ℕ). (o ≡ 0 → ⊥) → (o ≡ 7 → ⊥) → (o ≡ 1 → b ≡ 0) → admissible_at n o d a b ≡ (ltb d n && (ltb a n && ltb b n)))
      (λ f _ _. absurd (f refl))
      (λ _ _ f. copied n d a b (f refl))
      (λ _ _ _. simp and-true)
      (λ _ _ _. simp and-true)
      (λ _ _ _. simp and-true)
      (λ _ _ _. simp and-true)
      (λ _ _ _. simp and-true)
      (λ _ f _. absurd (f refl))
      op (omega arith) n0 n7 z

  -- ---- of an admissible one

  pub op_below : T (admissible_at n op d a b) → op < 8
  op_below t = by_test (ltb op 8) refl
    where
      by_test : (x : Bool) → ltb op 8 ≡ x → op < 8
      by_test true e = ltb-true op 8 e
      by_test false e = absurd (rw (is_over (ltb-false op 8 e)) at t)

  pub spare : T (admissible_at n op d a b) → op ≡ 1 → b ≡ 0
  unfolding zeros_kept admissible_at
  spare t e = eqb→eq b 0 (and_yes (eqb b 0) _ (rw e at t)).0

  pub set_d : T (admissible_at n op d a b) → op ≡ 0 → d < n
  set_d t e = ltb→lt d n (rw (is_set e) at t)

  pub open_a : T (admissible_at n op d a b) → op ≡ 7 → a < n
  open_a t e = ltb→lt a n (and_yes (eqb d 0 && eqb b 0) _ (rw (is_open e) at t)).1

  pub open_zeros : T (admissible_at n op d a b) → op ≡ 7 → (d ≡ 0) × (b ≡ 0)
  open_zeros t e =
      let p = and_yes (eqb d 0) _ (and_yes (eqb d 0 && eqb b 0) _ (rw (is_open e) at t)).0 in
      (eqb→eq d 0 p.0, eqb→eq b 0 p.1)

  pub rest_in : T (admissible_at n op d a b) → (op ≡ 0 → ⊥) → (op ≡ 7 → ⊥) → (op < 7) × (d < n) × (a < n) × (b < n)
  rest_in t n0 n7 =
      let l = op_below t in
      let p = and_yes (ltb d n) _ (rw (is_rest (omega arith) n0 n7 (spare t)) at t) in
      let q = and_yes (ltb a n) _ p.1 in
      (omega arith, ltb→lt d n p.0, ltb→lt a n q.0, ltb→lt b n q.1)
