-- What working a plan's rounds out takes of the plan and leaves of the log. Rests on the definitions alone.
use mathlib.Core.Path.{◌≡◌, refl, sym, ap, ◌∙◌}
use mathlib.Core.List.{List, [], ◌∷◌}
use Prim.Native.Nat.{ℕ, ◌+◌, ◌-◌, ◌≤◌}
use native.Mathlib.Omega.{arith}
use lib.ListN.{length, get_or, take, drop, length-drop}
use lib.Seq.{take_all, drop-drop, get_or-drop}
use Rattle.machine.specs.Depth.{greatest_from, decode_all, depth_of}

-- A plan without a header has no rounds.
pub none_deep : (plan : List ℕ) → length plan ≡ 0 → 0 ≡ depth_of (drop 1 plan)
unfolding greatest_from decode_all depth_of
none_deep [] e = refl
none_deep (h ∷ ws) e = let no : ⊥ = omega arith in absurd no

-- What the code lends of a plan as its words.
pub tail : (plan : List ℕ) → take (length plan - 1) (drop 1 plan) ≡ drop 1 plan
tail plan = take_all (length plan - 1) (drop 1 plan) (omega (arith, length-drop 1 plan))

pub tail_word : (plan : List ℕ) (i : ℕ) → get_or (take (length plan - 1) (drop 1 plan)) i 0 ≡ get_or plan (i + 1) 0
tail_word plan i =
    ap (λ (ws : List ℕ). get_or ws i 0) (tail plan)
    ∙ get_or-drop 1 plan i 0
    ∙ ap (λ (j : ℕ). get_or plan j 0) (omega arith)

pub tail_long : (plan : List ℕ) → 1 ≤ length plan → length (take (length plan - 1) (drop 1 plan)) + 1 ≡ length plan
tail_long plan h = omega (arith, ap length (tail plan), length-drop 1 plan)

pub shorter : (plan : List ℕ) → length (drop 1 plan) ≤ length plan
shorter plan = omega (arith, length-drop 1 plan)

-- What stays from a place on stays from any later one on.
pub kept_further : (log log' : List ℕ) (k n : ℕ) → k ≤ n → drop k log' ≡ drop k log → drop n log' ≡ drop n log
kept_further log log' k n l e =
    let s : k + (n - k) ≡ n = omega arith in
    ap (λ (j : ℕ). drop j log') (sym s)
    ∙ sym (drop-drop (n - k) k log')
    ∙ ap (drop (n - k)) e
    ∙ drop-drop (n - k) k log
    ∙ ap (λ (j : ℕ). drop j log) s
