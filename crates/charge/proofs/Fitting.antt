-- Words that keep to the first cells; and a table of depths that are all 0. Rests on lists' Slices.
use mathlib.Core.Path.{◌≡◌, refl, sym}
use mathlib.Core.Bool.{Bool, true, false, and-false}
use mathlib.Core.List.{List, [], ◌∷◌}
use mathlib.Core.Option.{Option, none, some}
use Prim.Native.Nat.{ℕ, zero, suc, ◌<◌, ◌≤◌}
use native.Mathlib.Nat.{le_of_eq}
use native.Mathlib.Omega.{arith}
use lib.Dec.{T, ltb, ltb→lt, lt→ltb}
use lib.ListN.{length, replicate}
use mir.Facts.{and_yes, yes_and}
use Rattle.std.specs.Bool.{MatchBool}
use Rattle.std.specs.List.{AllWithin, HoldsAt}
use Rattle.machine.specs.Instruction.{Instruction, addresses}
use Rattle.machine.specs.Word.{op_field, d_field, b_field, decode, zeros_kept, all_below, present, admissible_at, admissible}
use Rattle.machine.specs.Log.{Admitted}
use Rattle.deepening.specs.Word.{NoDeeper}
use Rattle.charge.specs.Table.{depths_in, enough}

-- ---- whether they keep to them

pub enough_admits : (count : ℕ) (words : List ℕ) → T (enough count words) → Admitted count words
unfolding enough
enough_admits count [] t = tt
enough_admits count (w ∷ ws) t = let p = and_yes (admissible count w) _ t in (p.0, enough_admits count ws p.1)

all_wider : (few many : ℕ) → few ≤ many → (cells : List ℕ) → T (all_below few cells) → T (all_below many cells)
all_wider few many l [] t = tt
all_wider few many l (a ∷ rest) t =
    let p = and_yes (ltb a few) _ t in
    yes_and (ltb a many) _ (lt→ltb a many (omega (arith, ltb→lt a few p.0))) (all_wider few many l rest p.1)

present_wider : (few many : ℕ) → few ≤ many → (o : Option (Instruction ℕ)) → T (present few o) → T (present many o)
unfolding present
present_wider few many l none t = t
present_wider few many l (some i) t = all_wider few many l (addresses i) t

-- Words that few cells admit are admitted by more.
pub wider : (few many : ℕ) → few ≤ many → (words : List ℕ) → Admitted few words → Admitted many words
unfolding admissible_at
wider few many l [] a = tt
wider few many l (w ∷ ws) a =
    let p = and_yes (zeros_kept (op_field w) (d_field w) (b_field w)) _ a.0 in
    (yes_and (zeros_kept (op_field w) (d_field w) (b_field w)) _ p.0 (present_wider few many l (decode w) p.1), wider few many l ws a.1)

-- Every word is admitted, or the one at some place is not.
pub enough_by : (count : ℕ) (words : List ℕ) (r : Bool)
    → MatchBool r (AllWithin (λ w. admissible count w ≡ true) words 0 (length words))
    ((k : ℕ) × (k < length words) × HoldsAt (λ w. admissible count w ≡ false) words k)
    → r ≡ enough count words
unfolding enough
enough_by count [] true h = refl
enough_by count (w ∷ ws) true h =
    rw (h 0 0 (omega arith) (omega arith)) (enough_by count ws true (λ k d l m. h (suc k) d (omega arith) (omega arith)))
enough_by count [] false (k, l, e) = let no : ⊥ = omega arith in absurd no
enough_by count (w ∷ ws) false (zero, l, e) = rw (e 0)
enough_by count (w ∷ ws) false (suc k, l, e) =
    rw (sym (enough_by count ws false (k, omega arith, e))) (sym (and-false (admissible count w)))

-- ---- a fresh table

zeros : (n a : ℕ) → depths_in (replicate n 0) a ≡ 0
zeros zero a = refl
zeros (suc n) zero = refl
zeros (suc n) (suc a) = zeros n a

pub fresh : (n : ℕ) → NoDeeper 0 (depths_in (replicate n 0))
fresh n a = le_of_eq (zeros n a)
