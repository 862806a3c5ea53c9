-- The methods of the code, by the numbers that the rules give them. Rests on the limits.
use Rattle.std.specs.Prelude.{◌≡◌, ℕ, false, Result, MatchResult}
use Rattle.answers.specs.declared.Refusal.{Refusal}
use Rattle.answers.specs.declared.Refusal.TheVariants as Fault
use Rattle.plans.specs.Limits.{known_method}
use Rattle.headers.specs.declared.Method.{Method}
use Rattle.headers.specs.declared.Method.TheVariants.{BellmanFord, Dijkstra, Jacobi, FloydWarshall, Routed}

abbrev pub number_of : Method → ℕ
number_of BellmanFord = 1
number_of Dijkstra = 2
number_of Jacobi = 3
number_of FloydWarshall = 4
number_of Routed = 5

-- The method with this number, or refusal 1 where there is none.
abbrev pub Numbered : ℕ → Result Method Refusal → Type 0
Numbered number r =
    MatchResult r (λ method. number_of method ≡ number) (λ e. (known_method number ≡ false) × (e ≡ Fault.Method))
