-- From what a run answers and leaves to the text of its outcome.
-- Rests on Fits, demands' Ran and printing's Unrefused.
use mathlib.Core.Path.{◌≡◌, refl, sym, ap, ◌∙◌}
use mathlib.Core.Bool.{Bool}
use mathlib.Core.List.{List}
use Rattle.std.specs.Prelude.{Ok, Err}
use Prim.Native.Nat.{ℕ, ◌≤◌}
use lib.IntN.{ℤ}
use lib.ListN.{length, get_or}
use Rattle.answers.specs.declared.Refusal as Code
use Rattle.answers.specs.declared.Refusal.TheVariants as Fault
use Rattle.answers.specs.Refusal.{rule_of}
use Rattle.answers.specs.Told.{Apart}
use Rattle.plans.specs.declared.Header.{Header}
use Rattle.plans.specs.Plan.{Accepted, distances, parents, route, by_kind}
use Rattle.limits.specs.WithinLimits.{header_in}
use Rattle.demands.specs.Run.{Lent, outcome}
use Rattle.engine.specs.declared.answer.Failure.TheVariants.{NegativeCycle, Refused}
use Rattle.engine.specs.Answer.{Answer, told_by_run, Met}
use Rattle.demands.proofs.Ran.{allowed}
use Rattle.printing.specs.Texts.{told_text, text_of, told_log, log_text}
use Rattle.printing.proofs.Unrefused.{ran}
use Rattle.replies.specs.Distinct.{Distinct}
use Rattle.replies.proofs.Fits.{log_fits}

-- No refusal has a run's number, so every answer is told from a run where it is one.
refusal_apart : (r : Code.Refusal) → Apart (rule_of r)
refusal_apart Fault.Method = (refl, refl)
refusal_apart Fault.Vertices = (refl, refl)
refusal_apart Fault.Edges = (refl, refl)
refusal_apart Fault.Source = (refl, refl)
refusal_apart Fault.Words = (refl, refl)
refusal_apart Fault.Cells = (refl, refl)
refusal_apart Fault.Log = (refl, refl)
refusal_apart Fault.Results = (refl, refl)
refusal_apart (Fault.Operation place) = (refl, refl)
refusal_apart (Fault.SpareBits place) = (refl, refl)
refusal_apart (Fault.Weight place) = (refl, refl)
refusal_apart (Fault.FromVertex place) = (refl, refl)
refusal_apart (Fault.ToVertex place) = (refl, refl)
refusal_apart (Fault.Unsorted place) = (refl, refl)
refusal_apart Fault.Destination = (refl, refl)

pub distinct : (a : Answer) → Distinct a
distinct (Ok r) = tt
distinct (Err (NegativeCycle r)) = tt
distinct (Err (Refused r)) = refusal_apart r

module _ (request : List ℕ) (lent : Lent) (a : Answer) (cells : List ℤ) (log : List ℕ) (ds ps rs : List ℤ)
    (m : Met (outcome request lent) a cells log (by_kind ds ps rs)) where
  -- A run's header is within the limits.
  pub run_accepted : (h : Header) → h ≡ header_in request → (told_by_run a).number ≡ 0 → Accepted h
  run_accepted h e z = rw e (allowed request lent (ran request lent (ap (λ t. t.number) (sym m.answers) ∙ z)))

  pub short_log : get_or (told_by_run a).values 1 0 ≤ length log
  short_log = rw (m.answers, m.log_left) (log_fits request lent)

  pub answer_text : (all : Bool) (h : Header) → h ≡ header_in request
      → told_text all h (told_by_run a) ds ps rs ≡ text_of all request (outcome request lent)
  unfolding text_of
  answer_text all h e = rw (e, m.answers, ← m.results_left distances, ← m.results_left parents, ← m.results_left route)

  pub log_text_is : told_log (told_by_run a) log ≡ log_text (outcome request lent)
  unfolding log_text
  log_text_is = rw (m.answers, m.log_left)
