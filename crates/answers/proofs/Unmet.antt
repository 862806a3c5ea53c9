-- Where several checks meet no refusal, each of them meets none: every test passes. Rests on the definitions alone.
use mathlib.Core.Path.{◌≡◌, refl}
use mathlib.Core.Logic.{◌↔◌}
use mathlib.Core.Bool.{Bool, true, false}
use mathlib.Core.List.{List, [], ◌∷◌, ◌++◌}
use mathlib.Core.Option.{Option, none, some, some-ne-none}
use lib.Dec.{T}
use Rattle.answers.specs.Refusal.{Refusal}
use Rattle.answers.specs.Refusal.{need, first_of, or_else}

pub need_none : (b : Bool) (r : Refusal) (later : Option Refusal) → (need b r later ≡ none) ↔ (T b × (later ≡ none))
need_none true r later = (λ e. (tt, e), λ p. p.1)
need_none false r later = (λ e. absurd (some-ne-none r e), λ p. absurd p.0)

-- Every test passes.
abbrev pub AllPass : List (Bool × Refusal) → Type 0
AllPass [] = Unit {0}
AllPass (t ∷ ts) = T t.0 × AllPass ts

pub first_none : (ts : List (Bool × Refusal)) → (first_of ts ≡ none) ↔ AllPass ts
first_none [] = (λ e. tt, λ p. refl)
first_none (t ∷ ts) =
    let head = need_none t.0 t.1 (first_of ts) in
    let rest = first_none ts in (
      λ e. let (passed, later) = head.0 e in (passed, rest.0 later),
      λ p. head.1 (p.0, rest.1 p.1),
    )

need_later : (b : Bool) (r : Refusal) (x y : Option Refusal) → need b r (or_else x y) ≡ or_else (need b r x) y
need_later true r x y = refl
need_later false r x y = refl

-- Tests after tests are a check after a check.
pub first_append : (ts us : List (Bool × Refusal)) → first_of (ts ++ us) ≡ or_else (first_of ts) (first_of us)
first_append [] us = refl
first_append (t ∷ ts) us = rw (first_append ts us) (need_later t.0 t.1 (first_of ts) (first_of us))

pub or_else_assoc : (a b c : Option Refusal) → or_else a (or_else b c) ≡ or_else (or_else a b) c
or_else_assoc none b c = refl
or_else_assoc (some r) b c = refl

pub or_else_none : (a b : Option Refusal) → (or_else a b ≡ none) ↔ ((a ≡ none) × (b ≡ none))
or_else_none none b = (λ e. (refl, e), λ p. p.1)
or_else_none (some r) b = (λ e. absurd (some-ne-none r e), λ p. absurd (some-ne-none r p.0))
