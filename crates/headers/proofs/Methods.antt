-- A method's number says which one it is. Rests on the limits' table by method.
use mathlib.Core.Path.{◌≡◌, refl, sym, ap, ◌∙◌}
use mathlib.Core.List.{[], ◌∷◌}
use Prim.Native.Nat.{ℕ}
use Rattle.plans.specs.Limits.{by_method}
use Rattle.headers.specs.declared.Method.{Method}
use Rattle.headers.specs.declared.Method.TheVariants.{BellmanFord, Dijkstra, Jacobi, FloydWarshall, Routed}
use Rattle.headers.specs.Method.{number_of}

of_number : ℕ → Method
of_number k = by_method k Routed (BellmanFord ∷ Dijkstra ∷ Jacobi ∷ FloydWarshall ∷ Routed ∷ [])

its_own : (method : Method) → of_number (number_of method) ≡ method
unfolding of_number
its_own BellmanFord = refl
its_own Dijkstra = refl
its_own Jacobi = refl
its_own FloydWarshall = refl
its_own Routed = refl

-- Another method has another number.
pub another : (method other : Method) (number : ℕ) → number_of method ≡ number → (method ≡ other → ⊥) → number ≡ number_of other → ⊥
another method other number is differs same =
    differs (sym (its_own method) ∙ ap of_number (is ∙ same) ∙ its_own other)
