-- Kinds of results: what holds of each holds of every one, and what is tested of every one.
-- Rests on the definitions alone.
use mathlib.Core.Path.{◌≡◌, refl}
use mathlib.Core.Bool.{Bool, true, false, ◌&&◌}
use mathlib.Core.Logic.{◌↔◌}
use lib.Dec.{T}
use mir.Facts.{and_yes, yes_and}
use Rattle.plans.specs.Plan.{Kind, distances, parents, route, every_kind}

pub each_kind : (P : Kind → Type 0) → P distances → P parents → P route → (k : Kind) → P k
each_kind P d p r distances = d
each_kind P d p r parents = p
each_kind P d p r route = r

pub each_kind_is : (f : Kind → Bool) → T (every_kind f) ↔ ((k : Kind) → T (f k))
each_kind_is f = (
  λ t.
      let (first, r) = and_yes (f distances && f parents) (f route) t in
      let (d, p) = and_yes (f distances) (f parents) first in
      each_kind (λ k. T (f k)) d p r,
  λ all.
      yes_and (f distances && f parents) (f route) (yes_and (f distances) (f parents) (all distances) (all parents))
      (all route),
)

and_false : (b : Bool) → b && false ≡ false
and_false true = refl
and_false false = refl

pub not_every : (f : Kind → Bool) (k : Kind) → f k ≡ false → every_kind f ≡ false
not_every f distances e = rw e
not_every f parents e = rw (e, and_false (f distances))
not_every f route e = rw e (and_false (f distances && f parents))
