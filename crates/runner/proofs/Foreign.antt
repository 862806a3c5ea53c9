-- What is asked of foreign plans: 9 is told at the lowest bad place, a refusal changes nothing, and a run's log is of the plan's words,
-- gives the run's cells when it is carried out again, and has the charge and the length that are answered; the rest of the buffers stays.
-- Rests on Lowest, Sized, answers' Unmet and machine's Replayed and Carried.
use mathlib.Core.Path.{◌≡◌, refl, ap, ◌∙◌}
use mathlib.Core.Bool.{true, false}
use mathlib.Core.List.{List, [], ◌∷◌}
use mathlib.Core.Option.{Option, none, some, some-ne-none}
use Prim.Native.Nat.{ℕ, ◌<◌, ◌≤◌}
use native.Mathlib.Omega.{arith}
use lib.Dec.{T, leb}
use lib.IntN.{ℤ}
use lib.ListN.{length, get_or, drop}
use lib.Seq.{take-append_seam, drop_at}
use Rattle.lists.specs.Buffers.{overwritten}
use Rattle.answers.specs.Refusal.{Refusal}
use Rattle.answers.specs.Refusal.{Log}
use Rattle.answers.specs.Told.{refused}
use Rattle.answers.proofs.Unmet.{need_none, or_else_none}
use Rattle.machine.specs.Instruction.{All}
use Rattle.machine.specs.Effect.{cell_at}
use Rattle.machine.specs.Log.{Admitted, Spares, cells_after, log_of, replay, AsTheyStood, without_published}
use Rattle.machine.specs.Depth.{charge_of}
use Rattle.machine.proofs.Carried.{length_after, spared_after}
use Rattle.machine.proofs.Replayed.{replay_log, words_log, told_log_is}
use Rattle.runner.specs.Runner.{bad_at, first_bad, operation_at, log_size, runner_refusal, plan_outcome, plan_rounds, plan_length, plan_log}
use Rattle.runner.proofs.Sized.{log_size_is}
use Rattle.runner.proofs.Lowest.{admitted_from, fine_before, bad_at_is}

-- ---- the lowest bad place

module _ (plan : List ℕ) (count : ℕ) where
  pub admitted : first_bad count 1 (drop 1 plan) ≡ none → Admitted count (drop 1 plan)
  admitted e = admitted_from (drop 1 plan) count 1 e

  pub none_bad : first_bad count 1 (drop 1 plan) ≡ none
      → (j : ℕ) → 1 ≤ j → j < length plan → bad_at count j (get_or plan j 0) ≡ false
  none_bad e j l h = fine_before plan count (drop 1 plan) 1 j refl l h (rw e h)

  pub first_bad_lowest : (k : ℕ) → first_bad count 1 (drop 1 plan) ≡ some k
      → (1 ≤ k)
      × (k < length plan)
      × (bad_at count k (get_or plan k 0) ≡ true)
      × ((j : ℕ) → 1 ≤ j → j < k → bad_at count j (get_or plan j 0) ≡ false)
  first_bad_lowest k e =
      let p = bad_at_is plan count (drop 1 plan) 1 k refl e in (
        p.0,
        p.1,
        p.2,
        λ (j : ℕ) (l : 1 ≤ j) (h : j < k). fine_before plan count (drop 1 plan) 1 j refl l (omega arith) (rw e h),
      )

-- ---- a refusal, and a run

no_operation : (o : Option ℕ) → operation_at o ≡ none → o ≡ none
no_operation none e = refl
no_operation (some k) e = absurd (some-ne-none _ e)

-- Without a refusal no place is bad, and the log has room.
pub none_met : (plan : List ℕ) (count room : ℕ) → runner_refusal plan count room ≡ none
    → (first_bad count 1 (drop 1 plan) ≡ none) × T (leb (log_size plan) room)
unfolding runner_refusal
none_met plan count room e =
    let (a, b) = (or_else_none (operation_at (first_bad count 1 (drop 1 plan))) _).0 e in
    (no_operation (first_bad count 1 (drop 1 plan)) a, ((need_none (leb (log_size plan) room) Log none).0 b).0)

module _ (plan : List ℕ) (cells : List ℤ) (log : List ℕ) where
  pub refused_plan : (r : Refusal) → runner_refusal plan (length cells) (length log) ≡ some r
      → plan_outcome plan cells log ≡ record { answer = refused r; cells = cells; log = log }
  unfolding plan_outcome
  refused_plan r e = rw e

  module _ (e : runner_refusal plan (length cells) (length log) ≡ none) where
    outcome : plan_outcome plan cells log
        ≡ record {
          answer = record { number = 0; place = none; values = charge_of (log_of plan cells) ∷ length (log_of plan cells) ∷ [] };
          cells = cells_after (drop 1 plan) cells;
          log = overwritten (log_of plan cells) log;
        }
    unfolding plan_outcome
    outcome = rw e

    written : plan_log plan cells log ≡ log_of plan cells
    written = rw outcome (take-append_seam (log_of plan cells) _)

    able : Admitted (length cells) (drop 1 plan)
    able = admitted plan (length cells) (none_met plan (length cells) (length log) e).0

    pub replayed_plan : replay (plan_log plan cells log) cells ≡ some (plan_outcome plan cells log).cells
    replayed_plan = rw (written, outcome) (replay_log plan cells able)

    pub words_plan : without_published (plan_log plan cells log) ≡ plan
    words_plan = rw written (words_log plan cells)

    pub told_as_stood : AsTheyStood (plan_log plan cells log) cells
    told_as_stood = rw written (told_log_is plan cells)

    pub length_whole : length (plan_log plan cells log) ≡ plan_length plan cells log
    length_whole = ap length written ∙ rw outcome

    pub charge_plan : plan_rounds plan cells log ≡ charge_of (plan_log plan cells log)
    charge_plan = rw (written, outcome)

    -- It tells 0, its rounds and its length.
    pub told_plan : (plan_outcome plan cells log).answer
        ≡ record { number = 0; place = none; values = plan_rounds plan cells log ∷ plan_length plan cells log ∷ [] }
    told_plan = rw outcome

    pub length_told_is : plan_length plan cells log ≡ log_size plan
    length_told_is = rw outcome (log_size_is plan cells)

    -- What lies beyond the log, and each cell that no word writes, is as it was lent.
    pub log_beyond : drop (log_size plan) (plan_outcome plan cells log).log ≡ drop (log_size plan) log
    log_beyond =
        let size = log_size_is plan cells in
        rw outcome (drop_at (log_of plan cells) _ (log_size plan) size ∙ ap (λ (k : ℕ). drop k log) size)

    pub cells_long : length (plan_outcome plan cells log).cells ≡ length cells
    cells_long = rw outcome (length_after (drop 1 plan) cells)

    pub cells_spared : (k : ℕ) → All (Spares k) (drop 1 plan) → cell_at (plan_outcome plan cells log).cells k ≡ cell_at cells k
    cells_spared k s = rw outcome (spared_after (drop 1 plan) cells k able s)
