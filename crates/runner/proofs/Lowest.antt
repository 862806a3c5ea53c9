-- The lowest bad place of a plan: the laws of the loop that looks for it, and what is then known of each place.
-- Rests on lists' Slices.
use mathlib.Core.Path.{◌≡◌, refl, sym, ap, ◌∙◌}
use mathlib.Core.Bool.{Bool, true, false, not, ◌||◌, cond}
use mathlib.Core.List.{List, [], ◌∷◌}
use mathlib.Core.Logic.{⊎_elim}
use mathlib.Core.Option.{Option, none, some, none-ne-some, some-ne-none}
use Prim.Native.Nat.{ℕ, suc, ◌+◌, ◌<◌, ◌≤◌}
use native.Mathlib.Nat.{eq-or-lt_of_le}
use native.Mathlib.Numerals.{add-one}
use native.Mathlib.Omega.{arith}
use lib.Dec.{T, leb}
use lib.ListN.{length, get_or, drop, length-drop, drop_of_length-le}
use lib.Seq.{drop-cons}
use Rattle.lists.proofs.Slices.{next}
use Rattle.machine.specs.Word.{admissible}
use Rattle.machine.specs.Log.{Admitted}
use Rattle.runner.specs.Runner.{bad_at, first_bad, found_of}
use Rattle.std.specs.Prelude.{Some, None}

-- ---- the loop

-- Before the word at place k: the lowest bad place from k on is that of the plan.
pub record Seeking (plan : List ℕ) (count k : ℕ) : Type 0 where
  pub rest : first_bad count k (drop k plan) ≡ first_bad count 1 (drop 1 plan)

pub start : (plan : List ℕ) (count : ℕ) → Seeking plan count 1
start plan count = record { rest = refl }

module _ (plan : List ℕ) (count k : ℕ) (t : Seeking plan count k) where
  by_test : k < length plan → (b : Bool) → bad_at count k (get_or plan k 0) ≡ b
      → first_bad count 1 (drop 1 plan) ≡ cond b (some k) (first_bad count (k + 1) (drop (k + 1) plan))
  unfolding first_bad
  by_test h b e = rw (← t.rest, next plan k 0 h, e, add-one)

  pub again : k < length plan → bad_at count k (get_or plan k 0) ≡ false → Seeking plan count (k + 1)
  again h e = record { rest = sym (by_test h false e) }

  pub found_here : k < length plan → bad_at count k (get_or plan k 0) ≡ true → Some k ≡ found_of (first_bad count 1 (drop 1 plan))
  found_here h e = rw (by_test h true e)

  pub found_nowhere : length plan ≤ k → None ≡ found_of (first_bad count 1 (drop 1 plan))
  unfolding first_bad
  found_nowhere h = ap found_of (sym (ap (first_bad count k) (drop_of_length-le plan h)) ∙ t.rest)

-- ---- no bad place

admitted_here : (a b : Bool) (place : ℕ) (later : Option ℕ) → cond (not a || b) (some place) later ≡ none → T a × (later ≡ none)
admitted_here true true place later e = absurd (some-ne-none place e)
admitted_here true false place later e = (tt, e)
admitted_here false b place later e = absurd (some-ne-none place e)

pub admitted_from : (ws : List ℕ) (count place : ℕ) → first_bad count place ws ≡ none → Admitted count ws
unfolding first_bad
admitted_from [] count place e = tt
admitted_from (w ∷ ws) count place e =
    let p = admitted_here (admissible count w) (leb 16777216 place) place (first_bad count (suc place) ws) e in
    (p.0, admitted_from ws count (suc place) p.1)

-- ---- each place

-- The words of a plan from a place on.
first_of_is : (plan : List ℕ) (place w : ℕ) (ws : List ℕ) → drop place plan ≡ w ∷ ws
    → (place < length plan) × (get_or plan place 0 ≡ w) × (drop (suc place) plan ≡ ws)
first_of_is plan place w ws e =
    let h : place < length plan = omega (arith, length-drop place plan, ap length e) in
    let p = drop-cons plan place 0 h in
    (h, cc, cc)

module _ (plan : List ℕ) (count : ℕ) where
  abbrev bad_in : ℕ → Bool
  bad_in place = bad_at count place (get_or plan place 0)

  -- Where looking ends: at the bad place, or after the last word.
  abbrev pub end : Option ℕ → ℕ
  end none = length plan
  end (some k) = k

  fine_here : (b : Bool) (place j : ℕ) (later : Option ℕ) → bad_in place ≡ b → place ≤ j → j < end (cond b (some place) later)
      → (place < j → j < end later → bad_in j ≡ false) → bad_in j ≡ false
  fine_here true place j later e l h f = let no : ⊥ = omega arith in absurd no
  fine_here false place j later e l h f =
      ⊎_elim (λ (q : place ≡ j). rw q at e) (λ (q : place < j). f q h) (eq-or-lt_of_le l)

  -- Every place before that is fine.
  pub fine_before : (ws : List ℕ) (place j : ℕ) → drop place plan ≡ ws → place ≤ j → j < length plan
      → j < end (first_bad count place ws) → bad_in j ≡ false
  unfolding first_bad
  fine_before [] place j p l h s = let no : ⊥ = omega (arith, length-drop place plan, ap length p) in absurd no
  fine_before (w ∷ ws) place j p l h s =
      let q = first_of_is plan place w ws p in
      fine_here (bad_at count place w) place j (first_bad count (suc place) ws) (ap (bad_at count place) q.1) l s
      (λ m r. fine_before ws (suc place) j q.2 m h r)

  -- A place from `place` on, in the plan, and bad.
  abbrev Bad : (place k : ℕ) → Type 0
  Bad place k = (place ≤ k) × (k < length plan) × (bad_in k ≡ true)

  bad_here : (b : Bool) (place k : ℕ) (later : Option ℕ) → place < length plan → bad_in place ≡ b
      → cond b (some place) later ≡ some k → (later ≡ some k → Bad (suc place) k) → Bad place k
  bad_here true place k later h e r f = let q : place ≡ k = cc in (omega arith, omega arith, rw q at e)
  bad_here false place k later h e r f = let p = f r in (omega arith, p.1, p.2)

  pub bad_at_is : (ws : List ℕ) (place k : ℕ) → drop place plan ≡ ws → first_bad count place ws ≡ some k → Bad place k
  unfolding first_bad
  bad_at_is [] place k p e = absurd (none-ne-some k e)
  bad_at_is (w ∷ ws) place k p e =
      let q = first_of_is plan place w ws p in
      bad_here (bad_at count place w) place k (first_bad count (suc place) ws) q.0 (ap (bad_at count place) q.1) e
      (bad_at_is ws (suc place) k q.2)
