-- What the log of a run tells, and what the logs of two runs do.
-- Rests on the log of a run and on the machine's laws of logs.
use mathlib.Core.Path.{◌≡◌, refl, sym, ap, ◌∙◌}
use mathlib.Core.Logic.{◌↔◌, ◌≢◌}
use mathlib.Core.List.{List, [], ◌∷◌, ◌++◌, append_cancel_left}
use mathlib.Core.Option.{Option, none, some, some-ne-none}
use Prim.Native.Nat.{ℕ, ◌^◌, ◌<◌, ◌≤◌}
use lib.ListN.{length, get_or}
use Rattle.machine.specs.Log.{replay, AsTheyStood, without_published}
use Rattle.machine.specs.Depth.{charge_of}
use Rattle.machine.proofs.Replayed.{replay_log, words_log, told_log_is}
use Rattle.plans.specs.declared.Header.{Header}
use Rattle.plans.specs.Plan.{cells_of, plan_of, verdict_cell, published, rounds_of_plan}
use Rattle.plans.proofs.Addresses.{admitted_plan}
use Rattle.plans.proofs.Same.{header_word_header_of, same_plan}
use Rattle.depths.proofs.Rounds.{rounds_log}
use Rattle.limits.specs.WithinLimits.{header_in}
use Rattle.demands.specs.Run.{Lent, start_of, outcome}
use Rattle.demands.specs.Demands.{RanOn, rounds_told, verdict_told, log_told, SamePublic}
use Rattle.demands.proofs.Intake.{long}
use Rattle.demands.proofs.Taken.{enough}
use Rattle.demands.proofs.Ran.{inside, allowed, cells_are, rounds_are, log_told_is, log_published}

-- ---- one run

module _ (request : List ℕ) (lent : Lent) (ran : RanOn request lent) where
  pub carried_out : replay (log_told request lent) (start_of request lent) ≡ some (outcome request lent).cells
  carried_out =
      let h = header_in request in
      let start = start_of request lent in
      let w = inside request lent ran in
      let room : cells_of h ≤ length start = rw (long request lent (enough request lent w)) (enough request lent w) in
      rw (log_told_is request lent ran, cells_are request lent ran)
      (replay_log (plan_of h) start (admitted_plan h (allowed request lent ran) (length start) room))

  pub charged : rounds_told request lent ≡ charge_of (log_told request lent)
  charged = rw (log_told_is request lent ran) (rounds_are request lent ran)

  pub as_they_stood : AsTheyStood (log_told request lent) (start_of request lent)
  as_they_stood = rw (log_told_is request lent ran) (told_log_is (plan_of (header_in request)) (start_of request lent))

  pub planned : without_published (log_told request lent) ≡ plan_of (header_in request)
  planned = rw (log_told_is request lent ran) (words_log (plan_of (header_in request)) (start_of request lent))

  pub own_header : get_or request 0 0 < 2 ^ 64 → get_or (log_told request lent) 0 0 ≡ get_or request 0 0
  unfolding plan_of
  own_header small = rw (log_published request lent ran) (header_word_header_of (get_or request 0 0) small)

  pub rounds_figure : rounds_told request lent ≡ rounds_of_plan (header_in request)
  rounds_figure =
      rounds_are request lent ran ∙ rounds_log (header_in request) (allowed request lent ran) (start_of request lent)

  pub start_long : length (start_of request lent) ≡ length lent.cells
  start_long = long request lent (enough request lent (inside request lent ran))

-- ---- two runs

-- The published words are the same just where the verdicts are, if there is a cell for it.
same_published : (cell : Option ℕ) (v v' : ℕ) → (cell ≢ none → v ≡ v') ↔ (published cell v ≡ published cell v')
same_published none v v' = (λ f. refl, λ e opens. absurd (opens refl))
same_published (some cell) v v' = (
  λ f. ap (λ (w : ℕ). w ∷ []) (f (some-ne-none cell)),
  λ e opens. ap (λ ws. get_or ws 0 0) e,
)

-- Logs, as plans with published words.
module _ (g h : Header) (v v' : ℕ) (e : g ≡ h) where
  alike : (verdict_cell g ≢ none → v ≡ v') → plan_of g ++ published (verdict_cell g) v ≡ plan_of h ++ published (verdict_cell h) v'
  alike f = rw e (ap (λ l. plan_of h ++ l) ((same_published (verdict_cell h) v v').0 (rw e at f)))

  told_apart : plan_of g ++ published (verdict_cell g) v ≡ plan_of h ++ published (verdict_cell h) v' → verdict_cell g ≢ none → v ≡ v'
  told_apart q opens = (same_published (verdict_cell h) v v').1 (append_cancel_left (plan_of h) _ _ (rw e at q)) (rw e at opens)

pub same_logs : (request request' : List ℕ) (lent lent' : Lent) → RanOn request lent → RanOn request' lent'
    → (log_told request lent ≡ log_told request' lent') ↔ SamePublic request lent request' lent'
same_logs request request' lent lent' ran ran' =
    let g = header_in request in
    let h = header_in request' in
    let v = verdict_told request lent in
    let v' = verdict_told request' lent' in
    let b = allowed request' lent' ran' in
    let log = log_published request lent ran in
    let log' = log_published request' lent' ran' in (
      λ (e : log_told request lent ≡ log_told request' lent').
          let q : g ≡ h =
          (same_plan g h (allowed request lent ran) b).0
          (sym (planned request lent ran) ∙ ap without_published e ∙ planned request' lent' ran') in
          record {
            method = ap (λ k. k.method) q;
            vertices = ap (λ k. k.vertices) q;
            edges = ap (λ k. k.edges) q;
            source = ap (λ k. k.source) q;
            verdict = told_apart g h v v' q (sym log ∙ e ∙ log');
          },
      λ s.
          let q : g ≡ h = λ i. record { method = s.method i; vertices = s.vertices i; edges = s.edges i; source = s.source i } in
          log ∙ alike g h v v' q s.verdict ∙ sym log',
    )
