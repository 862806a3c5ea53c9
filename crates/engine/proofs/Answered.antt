-- What a request's run answers and leaves, by the ways out of `run`. Rests on demands' Ran, Placed and the laws of limits.
use mathlib.Core.Path.{◌≡◌, refl, sym, ap, ◌∙◌}
use mathlib.Core.Logic.{⊎_elim}
use mathlib.Core.List.{List}
use mathlib.Core.Option.{none, some}
use Rattle.std.specs.Prelude.{Ok, Err, IsErrAnd}
use Prim.Native.Nat.{ℕ, ◌+◌, ◌≤◌}
use native.Mathlib.Omega.{arith}
use lib.IntN.{ℤ}
use lib.ListN.{length, drop}
use Rattle.answers.specs.declared.Refusal as Code
use Rattle.answers.specs.Refusal.{option_of, rule_of}
use Rattle.machine.specs.Effect.{cell_at}
use Rattle.machine.proofs.Carried.{length_after}
use Rattle.plans.specs.declared.Header.{Header}
use Rattle.plans.specs.Plan.{Accepted, plan_of, word_count_of, cells_of, Kind, results_of}
use Rattle.plans.proofs.Addresses.{results_inside}
use Rattle.runner.specs.declared.PlanReport.{PlanReport}
use Rattle.headers.specs.declared.Figures.{Figures}
use Rattle.headers.specs.Figures.{span_in, Figured}
use Rattle.std.proofs.lemmas.Result.{err_from_is_err_and}
use Rattle.limits.specs.Refusal.{room_for}
use Rattle.limits.specs.WithinLimits.{header_in, words_in, WithinLimits}
use Rattle.limits.proofs.WithinLimits.{accepted_in, counted_in, cells_in, log_in_lent, results_in}
use Rattle.intake.specs.Intake.{copied, starting_cells}
use Rattle.intake.proofs.Laid.{start_long}
use Rattle.engine.specs.declared.answer.Failure.TheVariants.{NegativeCycle, Refused}
use Rattle.demands.specs.Run.{Lent, lengths_of, refusal_of, verdict_at, There, verdict_of, outcome}
use Rattle.engine.specs.Answer.{Answer, Met}
use Rattle.engine.specs.Carry.{Ready, Carried}
use Rattle.demands.proofs.Logs.{log_length_is}
use Rattle.demands.proofs.Ran.{inside, ended, verdict_of_is}
use Rattle.engine.proofs.Placed.{verdict_below}

pub refused : (request : List ℕ) (lent : Lent) (r : Code.Refusal) → some (rule_of r) ≡ refusal_of request lent
    → (answer : Answer) → answer ≡ Err (Refused r) → Met (outcome request lent) answer lent.cells lent.log lent.results
unfolding outcome
refused request lent r e answer handed = rw (handed, ← e) (record { answers = refl; cells_left_are = refl; log_left = refl; results_left = λ k. refl })

-- What `?` hands on: the refusal as the engine's failure.
pub refusal_kept : (answer : Answer) (r : Code.Refusal) → IsErrAnd answer (λ failure. failure ≡ Refused r) → answer ≡ Err (Refused r)
refusal_kept answer r is = let p = err_from_is_err_and answer is in p.1 ∙ ap Err p.2

-- No refusal was met, and h is the header as it is read.
pub record Passed (request : List ℕ) (lent : Lent) (h : Header) : Type 0 where
  pub fine : none ≡ refusal_of request lent
  pub is : h ≡ header_in request

pub limits : (request : List ℕ) (lent : Lent) → none ≡ refusal_of request lent → WithinLimits request (lengths_of lent)
limits request lent fine = inside request lent (sym fine)

module _ {request : List ℕ} {lent : Lent} {h : Header} (p : Passed request lent h) where
  within : WithinLimits request (lengths_of lent)
  within = limits request lent p.fine

  pub allowed : Accepted h
  allowed = rw p.is (accepted_in _ _ within)

  pub counted : length (drop 1 request) ≡ word_count_of h
  counted = rw p.is (counted_in _ _ within)

  pub cells_enough : cells_of h ≤ length lent.cells
  cells_enough = rw p.is (cells_in _ _ within)

  results_enough : (k : Kind) → (results_of h k).count ≤ room_for (lengths_of lent) k
  results_enough = rw p.is (results_in _ _ within)

  -- `first` are the cells that intake leaves.
  module _ {first : List ℤ} (laid : first ≡ starting_cells h (words_in request) lent.cells) where
    first_long : length first ≡ length lent.cells
    first_long = ap length laid ∙ start_long h (words_in request) lent.cells cells_enough

    pub ready : Ready h first lent.log
    ready =
        let l = rw (sym p.is) at (log_in_lent _ _ within) in
        record {
          cells_enough = omega (arith, first_long, cells_enough);
          log_enough = omega (arith, log_length_is h allowed first, l);
        }

    -- What `carry` says of its report, the cells and the log.
    module _ {report : PlanReport} {left : List ℤ} {log : List ℕ} (done : Carried h first lent.log report left log) where
      left_enough : cells_of h ≤ length left
      left_enough = omega (arith, ap length done.cells_left_are, length_after (drop 1 (plan_of h)) first, first_long, cells_enough)

      -- f are the figures, as they are found.
      module _ {f : Figures} (figured : Figured h f) where
        pub verdict_there : There (option_of f.verdict) (length left)
        verdict_there = rw figured.verdict_is (verdict_below h allowed (length left) left_enough)

        pub can_copy : (k : Kind) → ((span_in f k).first + (span_in f k).count ≤ length left) × ((span_in f k).count ≤ room_for (lengths_of lent) k)
        can_copy k = rw (figured.results_are k) (omega (arith, left_enough, results_inside h allowed k), results_enough k)

        module _ {verdict : ℕ} (read : verdict ≡ verdict_at (option_of f.verdict) left) where
          reads : verdict ≡ verdict_of h left
          unfolding verdict_of
          reads = read ∙ rw figured.verdict_is

          -- With a negative cycle.
          pub cycled : verdict ≡ 1
              → Met (outcome request lent)
              (Err (NegativeCycle (record { rounds = report.rounds; log_length = report.length; verdict = verdict }))) left log
              lent.results
          cycled one =
              let e = rw (done.cells_left_are, laid, p.is) at (sym reads ∙ one) in
              rw (ended request lent (sym p.fine) 1 e)
              (record {
                answers = rw (one, done.charged, done.length_is, laid, p.is);
                cells_left_are = rw (done.cells_left_are, laid, p.is);
                log_left = rw (done.log_left, laid, p.is);
                results_left = λ k. refl;
              })

          -- Without one. given is what is copied.
          pub ran : (verdict ≡ 1 → ⊥) → {given : Kind → List ℤ}
              → ((k : Kind) → given k ≡ copied (span_in f k).count (λ i. cell_at left ((span_in f k).first + i)) (lent.results k))
              → Met (outcome request lent)
              (Ok (record { rounds = report.rounds; log_length = report.length; verdict = verdict })) left log given
          ran not_one is =
              let zero : verdict ≡ 0 = ⊎_elim (λ e. reads ∙ e) (λ e. absurd (not_one (reads ∙ e))) (verdict_of_is h left) in
              let e = rw (done.cells_left_are, laid, p.is) at (sym reads ∙ zero) in
              rw (ended request lent (sym p.fine) 0 e)
              (record {
                answers = rw (zero, done.charged, done.length_is, laid, p.is);
                cells_left_are = rw (done.cells_left_are, laid, p.is);
                log_left = rw (done.log_left, laid, p.is);
                results_left = λ k. rw (is k, figured.results_are k, done.cells_left_are, laid, p.is);
              })
