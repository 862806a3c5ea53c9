-- What a buffer holds after words were written to it: before them, among them and after them.
-- Rests on the toolchain's library alone.
use mathlib.Core.Path.{◌≡◌, refl, ◌∙◌}
use mathlib.Core.List.{List, [], ◌∷◌}
use Prim.Native.Nat.{ℕ, zero, suc, ◌+◌, ◌<◌, ◌≤◌}
use native.Mathlib.Nat.{not-suc-le-zero, le_of_suc-le-suc}
use native.Mathlib.Omega.{arith}
use lib.ListN.{length, get_or, set, length-set}
use lib.Seq.{sets, get_or-set_same, get_or-set_other}

pub sets_before : (vs t : List ℕ) (p j : ℕ) → j < p → get_or (sets t p vs) j 0 ≡ get_or t j 0
sets_before [] t p j h = refl
sets_before (a ∷ vs) t p j h = sets_before vs (set t p a) (suc p) j (omega arith) ∙ get_or-set_other t p j a 0 (λ e. omega arith)

pub sets_in : (vs t : List ℕ) (p f : ℕ) → f < length vs → p + length vs ≤ length t → get_or (sets t p vs) (p + f) 0 ≡ get_or vs f 0
sets_in [] t p f h l = absurd (not-suc-le-zero h)
sets_in (a ∷ vs) t p zero h l =
    let e : p + 0 ≡ p = omega arith in
    rw e (sets_before vs (set t p a) (suc p) p (omega arith) ∙ get_or-set_same t p a 0 (omega arith))
sets_in (a ∷ vs) t p (suc f) h l =
    let e : p + suc f ≡ suc p + f = omega arith in
    rw e (sets_in vs (set t p a) (suc p) f (le_of_suc-le-suc h) (omega (arith, length-set t p a)))

pub sets_after : (vs t : List ℕ) (p j : ℕ) → p + length vs ≤ j → get_or (sets t p vs) j 0 ≡ get_or t j 0
sets_after [] t p j h = refl
sets_after (a ∷ vs) t p j h = sets_after vs (set t p a) (suc p) j (omega arith) ∙ get_or-set_other t p j a 0 (λ e. omega arith)
