-- The greatest depth of an outline by names is that of the same outline at their places. For every kind of names that have places in a bank.
-- Rests on methods' Banks.
use mathlib.Core.Path.{◌≡◌, refl, ap, ap₂, ◌∙◌}
use mathlib.Core.Bool.{Bool, cond}
use mathlib.Core.List.{List, [], ◌∷◌, map}
use mathlib.Core.Option.{some}
use Prim.Native.Nat.{ℕ, ◌+◌, max}
use lib.Dec.{eqb}
use lib.IntN.{ℤ}
use Rattle.machine.specs.Instruction.{Instruction, SET, COPY, ADD, LESS, EQUAL, BOTH, MOVEIF, OPEN, addresses, All}
use Rattle.machine.specs.Depth.{target, depth, taken, deepened, greatest_from, greatest}
use Rattle.plans.specs.Outline.{Outline, start, instructions}
use Rattle.plans.proofs.Outlines.{renamed, plan_renamed}
use Rattle.plans.proofs.Addresses.{Keeps, Kept, keeps}
use Rattle.methods.proofs.Banks.{Layout}

module _ {A : Type 0} (same : A → A → Bool) (L : Layout A same) where
  open L use {Good, place, apart}

  -- Each named cell is as deep at its place.
  abbrev Agree : (s : A → ℕ) (at : ℕ → ℕ) → Type 0
  Agree s at = (a : A) → Good a → at (place a) ≡ s a

  module _ (s : A → ℕ) (at : ℕ → ℕ) (agree : Agree s at) where
    two : (c : ℕ) (a b : A) → Good a → Good b → max (at (place a)) (max (at (place b)) 0) + c ≡ max (s a) (max (s b) 0) + c
    two c a b g h = rw (agree a g, agree b h)

    depth_alike : (i : Instruction A) → All Good (addresses i) → depth (renamed place i) at ≡ depth i s
    depth_alike (SET d c) g = refl
    depth_alike (COPY d a) g = rw (agree a g.1.0)
    depth_alike (ADD d a b) g = two 0 a b g.1.0 g.1.1.0
    depth_alike (LESS d a b) g = two 6 a b g.1.0 g.1.1.0
    depth_alike (EQUAL d a b) g = two 6 a b g.1.0 g.1.1.0
    depth_alike (BOTH d a b) g = two 1 a b g.1.0 g.1.1.0
    depth_alike (MOVEIF d a b) g = rw (agree a g.1.0, agree b g.1.1.0, agree d g.0)
    depth_alike (OPEN a) g = rw (agree a g.0)

    -- With d at x in both.
    one : (x : ℕ) (d : A) → Good d → Agree (taken same (some d) x s) (taken eqb (some (place d)) x at)
    one x d g a h = ap₂ (λ (b : Bool) (y : ℕ). cond b x y) (apart d a g h) (agree a h)

    taken_alike : (x : ℕ) (i : Instruction A) → All Good (addresses i)
        → Agree (taken same (target i) x s) (taken eqb (target (renamed place i)) x at)
    taken_alike x (SET d c) g = one x d g.0
    taken_alike x (COPY d a) g = one x d g.0
    taken_alike x (ADD d a b) g = one x d g.0
    taken_alike x (LESS d a b) g = one x d g.0
    taken_alike x (EQUAL d a b) g = one x d g.0
    taken_alike x (BOTH d a b) g = one x d g.0
    taken_alike x (MOVEIF d a b) g = one x d g.0
    taken_alike x (OPEN a) g = agree

  greatest_alike : (is : List (Instruction A)) → All (Keeps Good (λ z. Unit {0})) is → (s : A → ℕ) (at : ℕ → ℕ) → Agree s at
      → greatest_from eqb (map (renamed place) is) at ≡ greatest_from same is s
  unfolding greatest_from
  greatest_alike [] good s at agree = refl
  greatest_alike (i ∷ is) good s at agree =
      let x = depth i s in
      let e = depth_alike s at agree i good.0.0 in
      ap (λ (y : ℕ). max y (greatest_from eqb (map (renamed place) is) (taken eqb (target (renamed place i)) y at))) e
      ∙ ap (max x) (greatest_alike is good.1 (deepened same i s) _ (taken_alike s at agree x i good.0.0))

  pub at_places : (name : (region place : ℕ) → A) (far : ℤ) (n m source : ℕ) (o : Outline) → Kept Good (λ z. Unit {0}) name far n m o
      → greatest eqb (instructions (λ r p. place (name r p)) far n m source o start) ≡ greatest same (instructions name far n m source o start)
  at_places name far n m source o kept =
      rw (← plan_renamed place name far n m source o start)
      (greatest_alike (instructions name far n m source o start) (keeps Good (λ z. Unit {0}) name far n m source o kept) (λ a. 0) (λ a. 0) (λ a g. refl))
