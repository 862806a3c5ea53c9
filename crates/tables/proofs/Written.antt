-- Laws of words written to a buffer: none, one, one list after another, and turn by turn in a loop.
-- Rests on Writing's RoomAt and Wrote, and on lists' Sets.
use mathlib.Core.Path.{◌≡◌, refl, sym, ap, subst, ◌∙◌}
use mathlib.Core.Logic.{⊎_elim}
use mathlib.Core.List.{List, [], ◌∷◌, ◌++◌, append_assoc, append-nil}
use Prim.Native.Nat.{ℕ, zero, suc, ◌+◌, ◌^◌, ◌<◌, ◌≤◌}
use native.Mathlib.Nat.{add-zero, eq-or-lt_of_le, le_of_suc-le-suc, not-suc-le-zero, le_antisymm}
use native.Mathlib.Numerals.{add-one}
use native.Mathlib.Omega.{arith}
use lib.ListN.{length, set, length-append}
use lib.Seq.{sets, length-sets}
use Rattle.lists.proofs.Sets.{sets_append}
use Rattle.machine.specs.Instruction.{All}
use Rattle.plans.specs.Blocks.{flat}
use Rattle.tables.specs.Writing.{RoomAt, Wrote}

-- ---- one list after another

pub nothing : (b : List ℕ) (at : ℕ) → Wrote [] b b at at
nothing b at = record { written = refl; ends = sym (add-zero at) }

pub one : (b : List ℕ) (at w : ℕ) → Wrote (w ∷ []) b (set b at w) at (at + 1)
one b at w = record { written = refl; ends = refl }

module _ {xs b₀ b₁ : List ℕ} {at mid : ℕ} (p : Wrote xs b₀ b₁ at mid) where
  pub kept : length b₁ ≡ length b₀
  kept = ap length p.written ∙ length-sets b₀ at xs

  pub then : {ys b₂ : List ℕ} {end : ℕ} → Wrote ys b₁ b₂ mid end → Wrote (xs ++ ys) b₀ b₂ at end
  then {ys} {b₂} {end} q =
      record {
        written =
            q.written ∙ ap (λ (b : List ℕ). sets b mid ys) p.written ∙ ap (λ (i : ℕ). sets (sets b₀ at xs) i ys) p.ends
            ∙ sym (sets_append b₀ at xs ys);
        ends = omega (arith, p.ends, q.ends, length-append xs ys);
      }

  -- Room for all is room for what comes next.
  pub ahead : (ys rest whole : List ℕ) → xs ++ (ys ++ rest) ≡ whole → RoomAt whole b₀ at → RoomAt ys b₁ mid
  ahead ys rest whole e r =
      let n = length-append xs (ys ++ rest) in
      let m = length-append ys rest in
      record {
        small = first ys rest (second xs (ys ++ rest) (subst (All (λ w. w < 2 ^ 64)) (sym e) r.small));
        fits = omega (arith, ap length e, kept, p.ends, r.fits);
      }
    where
      first : (us bs : List ℕ) → All (λ w. w < 2 ^ 64) (us ++ bs) → All (λ w. w < 2 ^ 64) us
      first [] bs a = tt
      first (x ∷ us) bs a = (a.0, first us bs a.1)

      second : (us bs : List ℕ) → All (λ w. w < 2 ^ 64) (us ++ bs) → All (λ w. w < 2 ^ 64) bs
      second [] bs a = a
      second (x ∷ us) bs a = second us bs a.1

-- ---- turn by turn

-- What stands before turn j, in it, and after it.
parted : (f : ℕ → List ℕ) (count j : ℕ) → j < count → (rest : List ℕ) × (flat j f ++ (f j ++ rest) ≡ flat count f)
unfolding flat
parted f zero j h = absurd (not-suc-le-zero h)
parted f (suc count) j h =
    ⊎_elim (λ (e : j ≡ count). ([], rw (e, append-nil)))
    (λ (l : j < count).
    let q = parted f count j l in
    (q.0 ++ f count, rw (← append_assoc (f j) q.0 (f count), ← append_assoc (flat j f) (f j ++ q.0) (f count), q.1)))
    (eq-or-lt_of_le (le_of_suc-le-suc h))

pub begin : (f : ℕ → List ℕ) (b : List ℕ) (at : ℕ) → Wrote (flat 0 f) b b at at
unfolding flat
begin f b at = nothing b at

module _ (f : ℕ → List ℕ) {b₀ b : List ℕ} {at next : ℕ} (j : ℕ) (p : Wrote (flat j f) b₀ b at next) where
  -- A turn has room.
  pub turn : (count : ℕ) → j < count → RoomAt (flat count f) b₀ at → RoomAt (f j) b next
  turn count h r = let q = parted f count j h in ahead p (f j) q.0 (flat count f) q.1 r

  pub again : {b' : List ℕ} {next' : ℕ} → Wrote (f j) b b' next next' → Wrote (flat (j + 1) f) b₀ b' at next'
  unfolding flat
  again q = rw add-one (then p q)

  pub finish : (count : ℕ) → j ≤ count → count ≤ j → Wrote (flat count f) b₀ b at next
  finish count h l = subst (λ (i : ℕ). Wrote (flat i f) b₀ b at next) (le_antisymm h l) p
