-- Lists of steps, carried out on a state: what holds at the end. For any kind of steps and states.
-- Rests on blocks.
use mathlib.Core.List.{List, [], ◌∷◌, ◌++◌, append_assoc}
use Prim.Native.Nat.{ℕ, zero, suc, ◌<◌}
use native.Mathlib.Nat.{le_step, lt-suc_self}
use Rattle.plans.specs.Blocks.{flat}

-- What is said of a state.
abbrev pub Claim : Type 0 → Type 1
Claim S = S → Type 0

-- A kind of steps I on states S: `needs i R s` is what has to hold at s for R to hold after step i.
pub record Kind (I S : Type 0) : Type 1 where
  pub needs : I → Claim S → Claim S
  pub needs_to : (i : I) (M R : Claim S) → ((t : S) → M t → R t) → (s : S) → needs i M s → needs i R s

module _ {I S : Type 0} (K : Kind I S) where
  -- Carried out from s, they meet what they need, and R holds of the state that they leave.
  abbrev pub Runs : List I → (R : Claim S) → S → Type 0
  Runs [] R s = R s
  Runs (i ∷ is) R s = K.needs i (Runs is R) s

  pub runs_then : (is js : List I) (M R : Claim S) (s : S) → Runs is M s → ((t : S) → M t → Runs js R t) → Runs (is ++ js) R s
  runs_then [] js M R s h then = then s h
  runs_then (i ∷ is) js M R s h then =
      K.needs_to i (Runs is M) (Runs (is ++ js) R) (λ t k. runs_then is js M R t k then) s h

  -- The loop rule: Inv j holds before turn j, and what follows the last turn runs from there.
  pub loop : (Inv : ℕ → Claim S) (count : ℕ) (f : ℕ → List I) (rest : List I) (R : Claim S) {s : S} → Inv 0 s
      → ((j : ℕ) (t : S) → j < count → Inv j t → Runs (f j) (Inv (suc j)) t)
      → ((t : S) → Inv count t → Runs rest R t)
      → Runs (flat count f ++ rest) R s
  unfolding flat
  loop Inv zero f rest R h step then = then _ h
  loop Inv (suc count) f rest R h step then =
      rw append_assoc
      (loop Inv count f (f count ++ rest) R h (λ j t l. step j t (le_step l))
      (λ t k. runs_then (f count) rest (Inv (suc count)) R t (step count t (lt-suc_self count) k) then))
