-- What `?` hands on is the refusal of the call before it. Rests on the definitions alone.
use mathlib.Core.Path.{◌≡◌, ap, ◌∙◌}
use mathlib.Core.Option.{Option, some}
use Rattle.std.specs.Prelude.{Result, Err, IsErrAnd}
use Rattle.std.proofs.lemmas.Result.{err_from_is_err_and}
use Rattle.answers.specs.declared.Refusal as Code
use Rattle.answers.specs.Refusal.{Refusal, rule_of, found}

pub the_same : {T : Type 0} (r : Result T Code.Refusal) (e : Code.Refusal) → IsErrAnd r (λ y. y ≡ e) → r ≡ Err e
the_same r e is = let p = err_from_is_err_and r is in p.1 ∙ ap Err p.2

-- Of checks, x is what they meet.
pub handed_on : {T : Type 0} (r : Result T Code.Refusal) (e : Code.Refusal) → IsErrAnd r (λ y. y ≡ e) → (x : Option Refusal)
    → some (rule_of e) ≡ x → found r ≡ x
handed_on r e is x met = ap found (the_same r e is) ∙ met
