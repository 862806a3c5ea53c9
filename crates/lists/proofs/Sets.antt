-- An element written to a buffer, and lists written one after the other. For any type of elements. Rests on Test.
use mathlib.Core.Path.{◌≡◌, refl, sym, ap, ◌∙◌}
use mathlib.Core.Bool.{cond}
use mathlib.Core.List.{List, [], ◌∷◌, ◌++◌}
use Prim.Native.Nat.{ℕ, zero, suc, ◌+◌, ◌<◌}
use native.Mathlib.Nat.{add-zero, add-suc, suc-add}
use lib.Dec.{eqb}
use lib.ListN.{length, get_or, set}
use lib.Seq.{sets, get_or-set_same, get_or-set_other}
use borrow.Author.Tests.{eqb-true, eqb-false}
use Rattle.lists.proofs.Test.{by_test}

-- What stands at place k once x is written at i.
pub set_at : {X : Type 0} (b : List X) (i k : ℕ) (x none : X) → i < length b → get_or (set b i x) k none ≡ cond (eqb i k) x (get_or b k none)
set_at b i k x none h =
    by_test (eqb i k)
    (λ e. rw (e, ← eqb-true i k e) (get_or-set_same b i x none h))
    (λ e. rw e (get_or-set_other b i k x none (λ q. eqb-false i k e (sym q))))

-- What stands at a place, written there again.
pub set_kept : {X : Type 0} (b : List X) (i : ℕ) (none : X) → set b i (get_or b i none) ≡ b
set_kept [] i none = refl
set_kept (y ∷ ys) zero none = refl
set_kept {X} (y ∷ ys) (suc i) none = ap (λ (zs : List X). y ∷ zs) (set_kept ys i none)

-- What stood at a place, written over something else there, is had back.
pub set_back : {X : Type 0} (b : List X) (i : ℕ) (x none : X) → set (set b i x) i (get_or b i none) ≡ b
set_back [] i x none = refl
set_back (y ∷ ys) zero x none = refl
set_back {X} (y ∷ ys) (suc i) x none = ap (λ (zs : List X). y ∷ zs) (set_back ys i x none)

pub sets_append : {X : Type 0} (b : List X) (at : ℕ) (xs ys : List X) → sets b at (xs ++ ys) ≡ sets (sets b at xs) (at + length xs) ys
sets_append b at [] ys = ap (λ (i : ℕ). sets b i ys) (sym (add-zero at))
sets_append b at (x ∷ xs) ys =
    sets_append (set b at x) (suc at) xs ys
    ∙ ap (λ (i : ℕ). sets (sets (set b at x) (suc at) xs) i ys) (suc-add at (length xs) ∙ sym (add-suc at (length xs)))
