-- What holds of each refusal that checks can meet holds of the one they meet, the first of several. Rests on the definitions alone.
use mathlib.Core.Path.{◌≡◌, sym}
use mathlib.Core.Bool.{Bool, true, false}
use mathlib.Core.List.{List, [], ◌∷◌}
use mathlib.Core.Option.{Option, none, some, some-ne-none, some-injective}
use Rattle.answers.specs.Refusal.{Refusal}
use Rattle.answers.specs.Refusal.{need, first_of, or_else}

pub record Meets (P : Refusal → Type 0) (met : Option Refusal) : Type 0 where
  pub holds : (r : Refusal) → met ≡ some r → P r

module _ (P : Refusal → Type 0) where
  pub none_meets : Meets P none
  none_meets = record { holds = λ r e. absurd (some-ne-none r (sym e)) }

  pub some_meets : (r : Refusal) → P r → Meets P (some r)
  some_meets r p = record { holds = λ q e. rw (some-injective r q e) at p }

  need_meets : (b : Bool) (r : Refusal) (later : Option Refusal) → P r → Meets P later → Meets P (need b r later)
  need_meets true r later p l = l
  need_meets false r later p l = some_meets r p

  -- It holds of the refusal of each test.
  abbrev pub OfEach : List (Bool × Refusal) → Type 0
  OfEach [] = Unit {0}
  OfEach (t ∷ ts) = P t.1 × OfEach ts

  pub first_meets : (ts : List (Bool × Refusal)) → OfEach ts → Meets P (first_of ts)
  first_meets [] p = none_meets
  first_meets (t ∷ ts) p = need_meets t.0 t.1 (first_of ts) p.0 (first_meets ts p.1)

  pub or_else_meets : (a b : Option Refusal) → Meets P a → Meets P b → Meets P (or_else a b)
  or_else_meets none b p q = q
  or_else_meets (some r) b p q = p
