-- Instructions carried out on a bank, one after the other, and what holds of the sums that they form.
-- Rests on the machine's effects.
use Rattle.std.specs.Prelude.{◌≡◌, List, [], ◌∷◌, ℕ, ℤ, ◌+ℤ◌}
use Rattle.std.proofs.Math.Option.{Option, none, some}
use Rattle.machine.specs.Instruction.{Instruction, SET, COPY, ADD, LESS, EQUAL, BOTH, MOVEIF, OPEN}
use Rattle.machine.specs.Effect.{wrap_add, cell_at, perform}

-- The bank after them.
unfoldable pub perform_all : List (Instruction ℕ) → List ℤ → List ℤ
perform_all [] cells = cells
perform_all (i ∷ is) cells = perform_all is (perform i cells)

-- The two cells that an ADD adds.
abbrev pub summands : {A : Type 0} → Instruction A → Option (A × A)
summands (SET d c) = none
summands (COPY d a) = none
summands (ADD d a b) = some (a, b)
summands (LESS d a b) = none
summands (EQUAL d a b) = none
summands (BOTH d a b) = none
summands (MOVEIF d a b) = none
summands (OPEN a) = none

-- Q of what the two cells hold, where there are two, and `rest`.
abbrev pub asked : {A : Type 0} (Q : ℤ → ℤ → Type 0) → Option (A × A) → (at : A → ℤ) (rest : Type 0) → Type 0
asked Q none at rest = rest
asked Q (some (a, b)) at rest = Q (at a) (at b) × rest

-- Q holds of [a] and [b] at every ADD d a b, the cells being what they are when it is carried out.
unfoldable pub Summed : (Q : ℤ → ℤ → Type 0) → List (Instruction ℕ) → List ℤ → Type 0
Summed Q [] cells = Unit {0}
Summed Q (i ∷ is) cells = asked Q (summands i) (cell_at cells) (Summed Q is (perform i cells))

-- Every ADD that is carried out gives the exact sum.
abbrev pub Exact : List (Instruction ℕ) → List ℤ → Type 0
Exact = Summed (λ x y. wrap_add x y ≡ x +ℤ y)
