-- A plan written to the log, carried out from there and its verdict published: what `carry` leaves. Rests on Placed, demands' Logs
-- and depths' Rounds.
use mathlib.Core.Path.{◌≡◌, sym, ap, ◌∙◌}
use mathlib.Core.List.{List, ◌++◌}
use Prim.Native.Nat.{ℕ, ◌+◌, ◌≤◌}
use native.Mathlib.Nat.{zero-add}
use native.Mathlib.Omega.{arith}
use lib.IntN.{ℤ}
use lib.ListN.{length, take, drop, length-append, length-drop}
use lib.Seq.{sets, take-append_seam, length-take-le}
use Rattle.lists.specs.Buffers.{overwritten}
use Rattle.lists.proofs.Sets.{sets_append}
use Rattle.lists.proofs.Filled.{from_start}
use Rattle.machine.specs.Log.{Admitted, cells_after, log_of}
use Rattle.machine.proofs.Carried.{length_after}
use Rattle.plans.specs.declared.Header.{Header}
use Rattle.plans.specs.Plan.{Accepted, plan_of, length_of, verdict_cell, published, rounds_of_plan}
use Rattle.plans.proofs.Addresses.{admitted_plan}
use Rattle.plans.proofs.Figures.{length_plan}
use Rattle.depths.proofs.Rounds.{rounds_log}
use Rattle.limits.specs.Refusal.{log_length_of}
use Rattle.demands.specs.Run.{opened_at, There}
use Rattle.engine.specs.Carry.{Ready, Carried}
use Rattle.engine.proofs.Placed.{verdict_below}
use Rattle.demands.proofs.Logs.{log_plan, log_length_is}

-- After words from the start of a buffer, more words.
further : (xs ys buffer : List ℕ) → length xs + length ys ≤ length buffer
    → sets (overwritten xs buffer) (length xs) ys ≡ overwritten (xs ++ ys) buffer
further xs ys buffer h =
    let n = length-append xs ys in
    ap (λ b. sets b (length xs) ys) (sym (from_start xs buffer (omega arith)))
    ∙ ap (λ (k : ℕ). sets (sets buffer 0 xs) k ys) (sym (zero-add (length xs)))
    ∙ sym (sets_append buffer 0 xs ys)
    ∙ from_start (xs ++ ys) buffer (omega arith)

module _ {h : Header} (a : Accepted h) {cells : List ℤ} {log : List ℕ} (r : Ready h cells log) where
  pub plan_room : length_of h ≤ length log
  unfolding log_length_of
  plan_room = omega (arith, log_length_is h a cells)

  plan_long : length (plan_of h) ≡ length_of h
  plan_long = length_plan h a

  -- What `fill` leaves in the log.
  module _ {size : ℕ} {written : List ℕ} (done : (size ≡ length_of h) × (written ≡ overwritten (plan_of h) log)) where
    pub inside : size ≤ length written
    inside = omega (arith, ap length done.1, length-append (plan_of h) (drop (length (plan_of h)) log), plan_long)

    pub words_long : size ≡ length (take size written)
    words_long = sym (length-take-le size written inside)

    plan_there : take size written ≡ plan_of h
    plan_there = rw (done.0, done.1, ← plan_long) (take-append_seam (plan_of h) (drop (length (plan_of h)) log))

    pub words_admitted : Admitted (length cells) (drop 1 (take size written))
    words_admitted = rw plan_there (admitted_plan h a (length cells) r.cells_enough)

    -- What `carry_words` leaves.
    module _ {left : List ℤ} (carried : left ≡ cells_after (drop 1 (take size written)) cells) where
      left_is : left ≡ cells_after (drop 1 (plan_of h)) cells
      left_is = carried ∙ rw plan_there

      pub verdict_there : There (verdict_cell h) (length left)
      verdict_there =
          verdict_below h a (length left) (omega (arith, ap length left_is, length_after (drop 1 (plan_of h)) cells))

      pub publish_room : size + length (published (verdict_cell h) 0) ≤ length written
      unfolding log_length_of
      publish_room =
          omega (
            arith,
            done.0,
            ap length done.1,
            length-append (plan_of h) (drop (length (plan_of h)) log),
            length-drop (length (plan_of h)) log,
            plan_long,
            log_length_is h a cells,
          )

      -- What `publish` and `rounds_of` answer, and what is left.
      pub ended : {end : ℕ} {after : List ℕ} {rounds : ℕ}
          → (end ≡ size + length (opened_at (verdict_cell h) left)) × (after ≡ sets written size (opened_at (verdict_cell h) left))
          → rounds ≡ rounds_of_plan h
          → Carried h cells log (record { rounds = rounds; length = end }) left after
      ended {end} {after} {rounds} p figure =
          let word = opened_at (verdict_cell h) left in
          let whole : log_of (plan_of h) cells ≡ plan_of h ++ word = log_plan h a cells ∙ rw left_is in
          let long = ap length whole ∙ length-append (plan_of h) word in
          let z : size ≡ length (plan_of h) = done.0 ∙ sym plan_long in
          record {
            charged = figure ∙ sym (rounds_log h a cells);
            length_is = omega (arith, p.0, long);
            cells_left_are = left_is;
            log_left = p.1 ∙ rw (done.1, z, whole) (further (plan_of h) word log (omega arith));
          }
