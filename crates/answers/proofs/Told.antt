-- Two refusals that tell the same are the same; and what tells as a refusal does is one that was met. Rests on the definitions alone.
use mathlib.Core.Path.{◌≡◌, refl, sym, ap, ap₂, ◌∙◌}
use mathlib.Core.Logic.{◌⊎◌, inl, inr}
use mathlib.Core.Option.{Option, none, some, some-ne-none, some-injective}
use Rattle.answers.specs.Refusal.{Refusal}
use Rattle.answers.specs.Refusal.{plain, placed, place_of}
use Rattle.answers.specs.Told.{Told, refused}
use Rattle.answers.proofs.Meets.{Meets}

-- A number alone, or a number and a place.
abbrev pub Formed : Refusal → Type 0
Formed r = (r ≡ plain r.number) ⊎ (r ≡ placed r.number r.place)

pub same_told : (q r : Refusal) → Formed q → Formed r → refused q ≡ refused r → q ≡ r
same_told q r (inl a) (inl b) e = a ∙ ap plain (ap (λ t. t.number) e) ∙ sym b
same_told q r (inl a) (inr b) e =
    absurd (some-ne-none r.place (sym (ap place_of b) ∙ sym (ap (λ t. t.place) e) ∙ ap place_of a))
same_told q r (inr a) (inl b) e =
    absurd (some-ne-none q.place (sym (ap place_of a) ∙ ap (λ t. t.place) e ∙ ap place_of b))
same_told q r (inr a) (inr b) e =
    let places = some-injective q.place r.place (sym (ap place_of a) ∙ ap (λ t. t.place) e ∙ ap place_of b) in
    a ∙ ap₂ placed (ap (λ t. t.number) e) places ∙ sym b

-- What is answered by the refusal met, with an answer of its own where there is none: here one that does not tell as r does.
module _ (answer : Option Refusal → Told) (tells : (q : Refusal) → answer (some q) ≡ refused q)
    (r : Refusal) (ran : answer none ≡ refused r → ⊥) where
  pub met_by : (met : Option Refusal) → answer met ≡ refused r → (q : Refusal) × (met ≡ some q) × (refused q ≡ refused r)
  met_by none e = absurd (ran e)
  met_by (some q) e = (q, refl, sym (tells q) ∙ e)

  pub met_exactly : Formed r → (met : Option Refusal) → Meets Formed met → answer met ≡ refused r → met ≡ some r
  met_exactly formed met m e = let (q, is, same) = met_by met e in is ∙ ap some (same_told q r (m.holds q is) formed same)
