-- A plan by names, carried out on a bank: each named cell holds what the store has, no other cell moves, the sums are the same.
-- For every kind of names that have places in the bank. Rests on stores.
use mathlib.Core.Path.{◌≡◌, refl, ap, ap₂, subst, ◌∙◌}
use mathlib.Core.Bool.{Bool, cond}
use mathlib.Core.List.{List, [], ◌∷◌, map}
use mathlib.Core.Option.{Option, none, some}
use Prim.Native.Nat.{ℕ, ◌<◌, ◌≤◌}
use native.Mathlib.Omega.{arith}
use borrow.Author.Tests.{ne_eqb}
use lib.Dec.{eqb}
use lib.IntN.{ℤ, pos}
use lib.ListN.{length, length-set}
use lib.Signed.{lt_z}
use Rattle.lists.proofs.Sets.{set_at}
use Rattle.machine.specs.Instruction.{Instruction, SET, COPY, ADD, LESS, EQUAL, BOTH, MOVEIF, OPEN, addresses, All}
use Rattle.machine.specs.Effect.{Effect, writes, nothing, effect, eq_z, bit, both, pick, wrap_add, cell_at, written, perform}
use Rattle.plans.specs.Outline.{Outline, start, instructions}
use Rattle.plans.proofs.Outlines.{renamed, plan_renamed}
use Rattle.plans.proofs.Addresses.{Keeps, Kept, keeps}
use Rattle.methods.specs.Bank.{perform_all, summands, asked, Summed}
use Rattle.methods.proofs.Steps.{Claim, Runs}
use Rattle.methods.proofs.Stores.{after, numbers}

-- Names in a bank: each good one has a place below `size`, and two of them have one place only where they are the same.
pub record Layout (A : Type 0) (same : A → A → Bool) : Type 1 where
  pub size : ℕ
  pub Good : A → Type 0
  pub place : A → ℕ
  pub below : (a : A) → Good a → place a < size
  pub apart : (a b : A) → Good a → Good b → eqb (place a) (place b) ≡ same a b

module _ {A : Type 0} (same : A → A → Bool) (L : Layout A same) where
  open L use {size, Good, place, below, apart}

  -- ---- an instruction by names and the same at its places

  abbrev Alike : Effect A → Effect ℕ → Type 0
  Alike (writes d z) f = Good d × (f ≡ writes (place d) z)
  Alike nothing f = f ≡ nothing

  abbrev AlikeSum : Option (A × A) → Option (ℕ × ℕ) → Type 0
  AlikeSum none p = p ≡ none
  AlikeSum (some (a, b)) p = Good a × Good b × (p ≡ some (place a, place b))

  summands_alike : (i : Instruction A) → All Good (addresses i) → AlikeSum (summands i) (summands (renamed place i))
  summands_alike (SET d c) g = refl
  summands_alike (COPY d a) g = refl
  summands_alike (ADD d a b) g = (g.1.0, g.1.1.0, refl)
  summands_alike (LESS d a b) g = refl
  summands_alike (EQUAL d a b) g = refl
  summands_alike (BOTH d a b) g = refl
  summands_alike (MOVEIF d a b) g = refl
  summands_alike (OPEN a) g = refl

  module _ (s : A → ℤ) (at : ℕ → ℤ) (agree : (a : A) → Good a → at (place a) ≡ s a) where
    pair : (f : ℤ → ℤ → ℤ) (d a b : A) → All Good (d ∷ a ∷ b ∷ [])
        → Good d × (writes (place d) (f (at (place a)) (at (place b))) ≡ writes (place d) (f (s a) (s b)))
    pair f d a b g =
        (g.0, ap₂ (λ (x y : ℤ). writes (place d) (f x y)) (agree a g.1.0) (agree b g.1.1.0))

    effect_alike : (i : Instruction A) → All Good (addresses i) → Alike (effect i s) (effect (renamed place i) at)
    effect_alike (SET d c) g = (g.0, refl)
    effect_alike (COPY d a) g = (g.0, ap (writes (place d)) (agree a g.1.0))
    effect_alike (ADD d a b) g = pair wrap_add d a b g
    effect_alike (LESS d a b) g = pair (λ x y. bit (lt_z x y)) d a b g
    effect_alike (EQUAL d a b) g = pair (λ x y. bit (eq_z x y)) d a b g
    effect_alike (BOTH d a b) g = pair both d a b g
    effect_alike (MOVEIF d a b) g = (
      g.0,
      (pair (λ x y. pick x y (at (place d))) d a b g).1
          ∙ ap (λ (x : ℤ). writes (place d) (pick (s a) (s b) x)) (agree d g.0),
    )
    effect_alike (OPEN a) g = refl

    asked_alike : (Q : ℤ → ℤ → Type 0) (o : Option (A × A)) (p : Option (ℕ × ℕ)) → AlikeSum o p
        → {B C D : Type 0} → (B → C × D) → asked Q o s B → asked Q p at C × D
    asked_alike Q none p e f h = rw e (f h)
    asked_alike Q (some (a, b)) p (ga, gb, e) f h =
        let r = f h.1 in
        rw (e, agree a ga, agree b gb) ((h.0, r.0), r.1)

  -- ---- a bank that was `first` mirrors a store

  module _ (first : List ℤ) (enough : size ≤ length first) where
    pub record Mirrors (s : A → ℤ) (cells : List ℤ) : Type 0 where
      pub long : length cells ≡ length first
      pub cell : (a : A) → Good a → cell_at cells (place a) ≡ s a
      pub rest : (k : ℕ) → size ≤ k → cell_at cells k ≡ cell_at first k

    step : (e : Effect A) (f : Effect ℕ) → Alike e f → (s : A → ℤ) (cells : List ℤ) → Mirrors s cells
        → Mirrors (after same e s) (written f cells)
    step nothing f e s cells h = rw e h
    step (writes d z) f (g, e) s cells h =
        rw e
        (record {
          long = length-set cells (place d) z ∙ h.long;
          cell =
              λ a k.
              set_at cells (place d) (place a) z (pos 0) (omega (arith, below d g))
              ∙ ap₂ (λ (b : Bool) (x : ℤ). cond b z x) (apart d a g k) (h.cell a k);
          rest =
              λ k l.
              set_at cells (place d) k z (pos 0) (omega (arith, below d g))
              ∙ ap (λ (b : Bool). cond b z (cell_at cells k)) (ne_eqb (place d) k (omega (arith, below d g)))
              ∙ h.rest k l;
        })

    -- .. one of which R holds.
    pub record Ended (R : Claim (A → ℤ)) (left : List ℤ) : Type 0 where
      pub store : A → ℤ
      pub meets : R store
      pub mirrored : Mirrors store left

    module _ (Q : ℤ → ℤ → Type 0) (R : Claim (A → ℤ)) where
      carried : (is : List (Instruction A)) → All (Keeps Good (λ z. Unit {0})) is
          → (s : A → ℤ) (cells : List ℤ) → Mirrors s cells → Runs (numbers same Q) is R s
          → Summed Q (map (renamed place) is) cells × Ended R (perform_all (map (renamed place) is) cells)
      unfolding perform_all Summed perform
      carried [] good s cells h r = (tt, record { store = s; meets = r; mirrored = h })
      carried (i ∷ is) good s cells h r =
          let alike = effect_alike s (cell_at cells) h.cell i good.0.0 in
          asked_alike s (cell_at cells) h.cell Q (summands i) (summands (renamed place i)) (summands_alike i good.0.0)
          (carried is good.1 (after same (effect i s) s) _ (step (effect i s) _ alike s cells h)) r

      -- An outline by names, and at their places.
      module _ (name : (region place : ℕ) → A) (far : ℤ) (n m source : ℕ) (o : Outline) where
        abbrev by_names : List (Instruction A)
        by_names = instructions name far n m source o start

        abbrev at_places : List (Instruction ℕ)
        at_places = instructions (λ r p. place (name r p)) far n m source o start

        pub on_bank : Kept Good (λ z. Unit {0}) name far n m o → Runs (numbers same Q) by_names R (λ a. cell_at first (place a))
            → Summed Q at_places first × Ended R (perform_all at_places first)
        on_bank kept r =
            subst (λ is. Summed Q is first × Ended R (perform_all is first)) (plan_renamed place name far n m source o start)
            (carried by_names (keeps Good (λ z. Unit {0}) name far n m source o kept) (λ a. cell_at first (place a)) first
            (record { long = refl; cell = λ a g. refl; rest = λ k l. refl }) r)
