-- What each call's answer tells is what its parts tell. Rests on the definitions alone.
use mathlib.Core.Path.{◌≡◌, refl}
use Prim.Native.Nat.{ℕ}
use Rattle.std.specs.Prelude.{Result, Ok, Err}
use Rattle.answers.specs.declared.Refusal.{Refusal}
use Rattle.answers.specs.Refusal.{Checked, rule_of}
use Rattle.answers.specs.Told.{refused, told_in}
use Rattle.limits.specs.declared.Lengths.{Lengths}
use Rattle.limits.specs.Sizes.{asking}
use Rattle.requests.specs.Sizes.{told_by_sizes}
use Rattle.planner.specs.Written.{told_by_writing}
use Rattle.runner.specs.declared.PlanReport.{PlanReport}
use Rattle.runner.specs.Runner.{told_by_plan}
use Rattle.saved.specs.Saved.{told_by_conversion}

pub by_plan : (answer : Result PlanReport Refusal)
    → told_in (λ t. told_by_plan (Ok t)) (λ r. refused (rule_of r)) answer ≡ told_by_plan answer
by_plan (Ok t) = refl
by_plan (Err r) = refl

pub by_writing : (answer : Result ℕ Refusal)
    → told_in (λ size. told_by_writing (Ok size)) (λ r. refused (rule_of r)) answer ≡ told_by_writing answer
by_writing (Ok size) = refl
by_writing (Err r) = refl

pub by_sizes : (answer : Result Lengths Refusal) → told_in asking (λ r. refused (rule_of r)) answer ≡ told_by_sizes answer
by_sizes (Ok lengths) = refl
by_sizes (Err r) = refl

pub by_conversion : (answer : Checked)
    → told_in (λ done. told_by_conversion (Ok done)) (λ r. refused (rule_of r)) answer ≡ told_by_conversion answer
by_conversion (Ok done) = refl
by_conversion (Err r) = refl
