-- The length of a plan's log: the laws of the loop that counts it, and that it is `log_size`. Rests on lists' Slices.
use mathlib.Core.Path.{◌≡◌, refl, ap}
use mathlib.Core.Bool.{Bool, true, false, cond}
use mathlib.Core.List.{List, [], ◌∷◌}
use Prim.Native.Nat.{ℕ, ◌+◌, ◌<◌, ◌≤◌}
use native.Mathlib.Omega.{arith}
use lib.IntN.{ℤ}
use lib.ListN.{length, get_or, drop, length-append, drop_of_length-le}
use Rattle.lists.proofs.Slices.{next}
use Rattle.fields.specs.Fields.{bits_of}
use Rattle.machine.specs.Effect.{cell_at}
use Rattle.machine.specs.Word.{a_field}
use Rattle.machine.specs.Log.{carried, opens, logged, log_from, log_of, sum_of}
use Rattle.runner.specs.Runner.{log_size}

-- ---- a sum over the words from place k on

pub sum_next : (f : ℕ → ℕ) (ws : List ℕ) (k : ℕ) → k < length ws
    → sum_of f (drop k ws) ≡ f (get_or ws k 0) + sum_of f (drop (k + 1) ws)
unfolding sum_of
sum_next f ws k h = ap (sum_of f) (next ws k 0 h)

pub sum_end : (f : ℕ → ℕ) (ws : List ℕ) (k : ℕ) → length ws ≤ k → sum_of f (drop k ws) ≡ 0
unfolding sum_of
sum_end f ws k h = ap (sum_of f) (drop_of_length-le ws h)

-- ---- the loop

-- The published word after an OPEN.
abbrev publishes : ℕ → ℕ
publishes w = cond (opens w) 1 0

-- Before the word at place k: the count so far and what is left to count.
pub record Counting (plan : List ℕ) (size k : ℕ) : Type 0 where
  pub rest : size + sum_of publishes (drop k plan) ≡ log_size plan
  pub few : size ≤ length plan + k

pub start : (plan : List ℕ) → Counting plan (length plan) 1
unfolding log_size
start plan = record { rest = refl; few = omega arith }

module _ (plan : List ℕ) (size k : ℕ) (t : Counting plan size k) where
  pub again_open : k < length plan → opens (get_or plan k 0) ≡ true → (size' : ℕ) → size' ≡ size + 1 → Counting plan size' (k + 1)
  again_open h e size' q =
      let n = sum_next publishes plan k h in
      let o : publishes (get_or plan k 0) ≡ 1 = rw e in
      record { rest = omega arith; few = omega arith }

  pub again_other : k < length plan → opens (get_or plan k 0) ≡ false → (size' : ℕ) → size' ≡ size → Counting plan size' (k + 1)
  again_other h e size' q =
      let n = sum_next publishes plan k h in
      let o : publishes (get_or plan k 0) ≡ 0 = rw e in
      record { rest = omega arith; few = omega arith }

  pub done : length plan ≤ k → size ≡ log_size plan
  done h = omega (arith, sum_end publishes plan k h)

-- ---- the log

one_size : (b : Bool) (x : ℕ) → length (cond b (x ∷ []) []) ≡ cond b 1 0
one_size true x = refl
one_size false x = refl

size_from : (ws : List ℕ) (cells : List ℤ) → length (log_from ws cells) ≡ length ws + sum_of publishes ws
unfolding logged log_from sum_of
size_from [] cells = refl
size_from (w ∷ ws) cells =
    omega (
      arith,
      length-append (logged w cells) (log_from ws (carried w cells)),
      one_size (opens w) (bits_of 64 (cell_at cells (a_field w))),
      size_from ws (carried w cells),
    )

pub log_size_is : (plan : List ℕ) (cells : List ℤ) → length (log_of plan cells) ≡ log_size plan
unfolding log_of log_size sum_of
log_size_is [] cells = refl
log_size_is (h ∷ ws) cells = omega (arith, size_from ws cells)
