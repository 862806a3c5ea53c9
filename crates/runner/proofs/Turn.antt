-- The loop that carries a plan's words out and logs them, wherever the words come from: its invariant and its laws.
-- Rests on lists' Slices, Sets and Filled and on machine's Carried.
use mathlib.Core.Path.{◌≡◌, refl, sym, ap, ◌∙◌}
use mathlib.Core.List.{List, [], ◌∷◌, ◌++◌}
use Prim.Native.Nat.{ℕ, ◌+◌, ◌<◌, ◌≤◌}
use native.Mathlib.Omega.{arith}
use lib.Dec.{T}
use lib.IntN.{ℤ}
use lib.ListN.{length, get_or, set, drop, length-set, length-append, drop_of_length-le}
use lib.Seq.{sets, length-sets}
use Rattle.lists.proofs.Slices.{next}
use Rattle.lists.proofs.Sets.{sets_append}
use Rattle.lists.proofs.Filled.{from_start}
use Rattle.machine.specs.Word.{admissible}
use Rattle.machine.specs.Log.{carried, logged, Admitted, cells_after, log_from, log_of}
use Rattle.machine.proofs.Carried.{length_carried}
use Rattle.runner.specs.Runner.{CarriedOut}

-- ---- words carried out

-- Before the word at place k: what is left of the words makes of the cells what all of them but the first make of those at the start.
pub record Carrying (words : List ℕ) (cells₀ cells : List ℤ) (k : ℕ) : Type 0 where
  pub admits : Admitted (length cells₀) (drop k words)
  pub count : length cells ≡ length cells₀
  pub leaves : cells_after (drop k words) cells ≡ cells_after (drop 1 words) cells₀

pub begin : (words : List ℕ) (cells : List ℤ) → Admitted (length cells) (drop 1 words) → Carrying words cells cells 1
begin words cells a = record { admits = a; count = refl; leaves = refl }

module _ {words : List ℕ} {cells₀ cells : List ℤ} {k : ℕ} (c : Carrying words cells₀ cells k) (h : k < length words)
    (w : ℕ) (is : w ≡ get_or words k 0) where
  off : drop k words ≡ w ∷ drop (k + 1) words
  off = rw is (next words k 0 h)

  both : T (admissible (length cells₀) w) × Admitted (length cells₀) (drop (k + 1) words)
  both = rw off at c.admits

  pub can : T (admissible (length cells) w)
  can = rw c.count both.0

  pub further : (cells' : List ℤ) → cells' ≡ carried w cells → Carrying words cells₀ cells' (k + 1)
  unfolding cells_after
  further cells' e =
      record {
        admits = both.1;
        count = ap length e ∙ length_carried w cells ∙ c.count;
        leaves = rw e (sym (ap (λ (ws : List ℕ). cells_after ws cells) off) ∙ c.leaves);
      }

pub finished : {words : List ℕ} {cells₀ cells : List ℤ} {k : ℕ} → Carrying words cells₀ cells k → length words ≤ k
    → cells ≡ cells_after (drop 1 words) cells₀
unfolding cells_after
finished {words} {cells₀} {cells} {k} c e =
    sym (ap (λ (ws : List ℕ). cells_after ws cells) (drop_of_length-le words e)) ∙ c.leaves

-- ---- and logged

-- Before the word at place k: what is left of the plan makes of the log and its place what all of it makes of those at the start, where the
-- log has the header already.
pub record Turn (plan : List ℕ) (cells₀ : List ℤ) (log₀ : List ℕ) (cells : List ℤ) (log : List ℕ) (at k : ℕ) : Type 0 where
  pub carrying : Carrying plan cells₀ cells k
  pub long : length log ≡ length log₀
  pub room : at + length (log_from (drop k plan) cells) ≤ length log
  pub writes : sets log at (log_from (drop k plan) cells) ≡ sets log₀ 1 (log_from (drop 1 plan) cells₀)
  pub ends : at + length (log_from (drop k plan) cells) ≡ 1 + length (log_from (drop 1 plan) cells₀)

-- ---- the header

-- The log of a plan with a header w.
pub plan_log_is : (plan : List ℕ) (cells : List ℤ) (w : ℕ) → 0 < length plan → w ≡ get_or plan 0 0
    → log_of plan cells ≡ w ∷ log_from (drop 1 plan) cells
unfolding log_of
plan_log_is [] cells w h e = let no : ⊥ = omega arith in absurd no
plan_log_is (x ∷ ws) cells w h e = rw e

-- Room for the log is room for the header.
pub has_header : (plan : List ℕ) (cells : List ℤ) (log : List ℕ) → 0 < length plan → length (log_of plan cells) ≤ length log → 0 < length log
has_header plan cells log h r = omega (arith, ap length (plan_log_is plan cells _ h refl))

pub start : (plan : List ℕ) (cells : List ℤ) (log : List ℕ) (w : ℕ) → 0 < length plan → w ≡ get_or plan 0 0
    → Admitted (length cells) (drop 1 plan) → length (log_of plan cells) ≤ length log
    → Turn plan cells (set log 0 w) cells (set log 0 w) 1 1
start plan cells log w h is a r =
    record {
      carrying = begin plan cells a;
      long = refl;
      room = omega (arith, ap length (plan_log_is plan cells w h is), length-set log 0 w);
      writes = refl;
      ends = refl;
    }

-- ---- a word

module _ {plan : List ℕ} {cells₀ : List ℤ} {log₀ : List ℕ} {cells : List ℤ} {log : List ℕ} {at k : ℕ}
    (t : Turn plan cells₀ log₀ cells log at k) (h : k < length plan) (w : ℕ) (is : w ≡ get_or plan k 0) where
  split : log_from (drop k plan) cells ≡ logged w cells ++ log_from (drop (k + 1) plan) (carried w cells)
  unfolding log_from
  split = ap (λ (ws : List ℕ). log_from ws cells) (off t.carrying h w is)

  whole : length (log_from (drop k plan) cells)
      ≡ length (logged w cells) + length (log_from (drop (k + 1) plan) (carried w cells))
  whole = ap length split ∙ length-append (logged w cells) _

  pub fits : at + length (logged w cells) ≤ length log
  fits = omega (arith, whole)

  pub again : (cells' : List ℤ) (log' : List ℕ) (at' : ℕ) → cells' ≡ carried w cells
      → (at' ≡ at + length (logged w cells)) × (log' ≡ sets log at (logged w cells))
      → Turn plan cells₀ log₀ cells' log' at' (k + 1)
  again cells' log' at' c l =
      let s : length log' ≡ length log = ap length l.1 ∙ length-sets log at (logged w cells) in
      record {
        carrying = further t.carrying h w is cells' c;
        long = s ∙ t.long;
        room = rw c (omega (arith, whole));
        writes =
            rw (c, l.1, l.0)
            (sym (sets_append log at (logged w cells) _) ∙ ap (sets log at) (sym split) ∙ t.writes);
        ends = rw c (omega (arith, whole));
      }

-- ---- after the last word

pub done : {plan : List ℕ} {cells₀ : List ℤ} {log₀ : List ℕ} {cells : List ℤ} {log : List ℕ} {at k : ℕ} (w : ℕ)
    → Turn plan cells₀ (set log₀ 0 w) cells log at k → 0 < length plan → w ≡ get_or plan 0 0 → length plan ≤ k
    → CarriedOut plan cells₀ log₀ cells log
unfolding log_from
done {plan} {cells₀} {log₀} {cells} {log} {at} {k} w t h is e =
    let n = drop_of_length-le plan e in
    let l = plan_log_is plan cells₀ w h is in
    let z : length (log_from (drop k plan) cells) ≡ 0 = ap (λ (ws : List ℕ). length (log_from ws cells)) n in
    record {
      cells_left_are = finished t.carrying e;
      log_left =
          sym (ap (λ (ws : List ℕ). sets log at (log_from ws cells)) n)
          ∙ t.writes
          ∙ ap (sets log₀ 0) (sym l)
          ∙ from_start (log_of plan cells₀) log₀ (omega (arith, ap length l, length-set log₀ 0 w));
    }

-- A plan without a header.
pub no_words : (plan : List ℕ) (cells : List ℤ) (log : List ℕ) → length plan ≡ 0 → CarriedOut plan cells log cells log
unfolding cells_after log_of
no_words [] cells log e = record { cells_left_are = refl; log_left = refl }
no_words (h ∷ ws) cells log e = let no : ⊥ = omega arith in absurd no
