-- What writing a plan answers, and what the buffer then holds. Rests on plans and refusals.
use Rattle.std.specs.Prelude.{◌≡◌, Result, Ok, Err, List, [], ◌∷◌, map, ℕ, leb, length, get_or}
use Rattle.std.proofs.Math.Option.{Option, none, some}
use Rattle.lists.specs.Buffers.{overwritten}
use Rattle.answers.specs.declared.Refusal as Code
use Rattle.answers.specs.Refusal.{Refusal, Method, Log, rule_of, need, or_else}
use Rattle.answers.specs.Told.{Told, refused}
use Rattle.machine.specs.Word.{encode}
use Rattle.plans.specs.declared.Header.{Header}
use Rattle.plans.specs.Limits.{far}
use Rattle.plans.specs.Regions.{address}
use Rattle.plans.specs.Outline.{start, instructions}
use Rattle.plans.specs.Method1 as Method1
use Rattle.plans.specs.Plan.{header_of, plan_of}
use Rattle.headers.specs.Refusal.{header_refusal}

-- 1 to 4, then 7: no header word, the header's own, a buffer of fewer words than the plan.
unfoldable pub plan_refusal : (header : List ℕ) (room : ℕ) → Option Refusal
plan_refusal [] room = some Method
plan_refusal (w ∷ rest) room = or_else (header_refusal (header_of w)) (need (leb (length (plan_of (header_of w))) room) Log none)

-- What an answer says: the plan's length, or a refusal.
abbrev pub told_by_writing : Result ℕ Code.Refusal → Told
told_by_writing (Ok size) = record { number = 0; place = none; values = size ∷ [] }
told_by_writing (Err r) = refused (rule_of r)

-- The answer and the buffer, for the plan's words and the refusal met.
abbrev pub answer_of : Option Refusal → (plan : List ℕ) → Told
answer_of none plan = record { number = 0; place = none; values = length plan ∷ [] }
answer_of (some r) plan = refused r

abbrev pub buffer_of : Option Refusal → (plan buffer : List ℕ) → List ℕ
buffer_of none plan buffer = overwritten plan buffer
buffer_of (some r) plan buffer = buffer

-- The plan of a header's first word.
abbrev pub plan_words : (header : List ℕ) → List ℕ
plan_words header = plan_of (header_of (get_or header 0 0))

-- The words of method 1's opening, passes and check, for a header's counts and source; method 5's plan has them too.
unfoldable pub solve_words : Header → List ℕ
solve_words h =
    let n = h.vertices in
    let m = h.edges in
    map encode (instructions (address (Method1.starts n m)) far n m h.source Method1.solve start)

pub record WrittenPlan (header buffer : List ℕ) (answer : Result ℕ Code.Refusal) (after : List ℕ) : Type 0 where
  pub answers : told_by_writing answer ≡ answer_of (plan_refusal header (length buffer)) (plan_words header)
  pub leaves : after ≡ buffer_of (plan_refusal header (length buffer)) (plan_words header) buffer
