-- Writing a plan in plain propositions (document 01: it "can meet 1 to 4 and 7, and answers its length", and a refusal "changes no lent buffer,
-- in the runner and the plan writer too"), about what the contract of `write_plan` cites. Rests on planner's definitions and on a header's limits.
use Rattle.std.specs.Prelude.{◌≡◌, ◌↔◌, ◌⊎◌, List, [], ◌∷◌, ◌++◌, ℕ, ◌+◌, ◌-◌, ◌*◌, ◌≤◌, length, take, drop}
use Rattle.std.proofs.Math.Option.{none}
use Rattle.answers.specs.Facts.{by_number}
use Rattle.plans.specs.Limits.{by_method}
use Rattle.plans.specs.Plan.{plan_of}
use Rattle.limits.specs.WithinLimits.{header_in, AllKept, FirstBroken, header_limits}
use Rattle.planner.specs.Facts.{writing_answered, buffer_left}

-- The words of a plan.
abbrev pub plan_figure : (method n m : ℕ) → ℕ
plan_figure method n m =
    by_method method 0
    ((3 * n + 4 + m * (8 * (n * n) + 3 * n - 1))
    ∷ (n * n * n + 11 * (n * n) + 6 * n + 3)
    ∷ (3 * (n * n) + 3 * n + 5 + m * (3 * (n * n) + 10 * n - 1))
    ∷ (3 * (n * n * n) + 5 * (n * n) + 4 * n + 27 + m * (3 * (n * n) + 6 * n))
    ∷ (3 * (n * n) + 2 * n + 4 + m * (8 * (n * n) + 5 * n))
    ∷ [])

abbrev pub size_of : (header : List ℕ) → ℕ
size_of header = plan_figure (header_in header).method (header_in header).vertices (header_in header).edges

-- 1 to 4 of the header, then 7 of the buffer.
abbrev pub writing_limits : (header : List ℕ) (room : ℕ) → List (ℕ × Type 0)
writing_limits header room =
    (1, 1 ≤ length header)
    ∷ (header_limits (header_in header).method (header_in header).vertices (header_in header).edges (header_in header).source
    ++ (7, size_of header ≤ room) ∷ [])

pub record DemandWriting (header buffer : List ℕ) : Type 0 where
  -- With every limit kept it answers the plan's length, and the buffer has the plan and then what it had.
  pub answers : AllKept (writing_limits header (length buffer))
      → writing_answered header buffer ≡ record { number = 0; place = none; values = size_of header ∷ [] }
  pub writes : AllKept (writing_limits header (length buffer)) → take (size_of header) (buffer_left header buffer) ≡ plan_of (header_in header)
  pub beyond : AllKept (writing_limits header (length buffer)) → drop (size_of header) (buffer_left header buffer) ≡ drop (size_of header) buffer
  -- It answers a number alone exactly where that is the number of the first limit broken, and then the buffer stays. There is nothing else.
  pub refuses : (number : ℕ) → (writing_answered header buffer ≡ by_number number) ↔ FirstBroken (writing_limits header (length buffer)) number
  pub unchanged : (number : ℕ) → FirstBroken (writing_limits header (length buffer)) number → buffer_left header buffer ≡ buffer
  pub settled : AllKept (writing_limits header (length buffer)) ⊎ ((number : ℕ) × FirstBroken (writing_limits header (length buffer)) number)
