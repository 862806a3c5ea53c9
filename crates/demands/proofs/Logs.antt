-- The log of a header's plan: the plan's words and, where it has a verdict, one more, that cell of those left; and its length.
-- Rests on outlines and their weights, and on the machine's laws of logs.
use mathlib.Core.Path.{◌≡◌, refl, sym, ap, ap₂, ◌∙◌}
use mathlib.Core.Bool.{cond}
use mathlib.Core.List.{List, [], ◌∷◌, ◌++◌, map, map-append, append_assoc, append-nil}
use mathlib.Core.Option.{Option, none, some}
use Prim.Native.Nat.{ℕ}
use native.Mathlib.Omega.{arith}
use lib.Dec.{eqb}
use lib.IntN.{ℤ}
use lib.ListN.{length, drop, length-append}
use Rattle.fields.specs.Fields.{bits_of}
use Rattle.machine.specs.Instruction.{Instruction, OPEN, op_of, All}
use Rattle.machine.specs.Effect.{cell_at, perform}
use Rattle.machine.specs.Word.{Fits, op_field, a_field, encode}
use Rattle.machine.specs.Log.{carry, carried, cells_after, logged, log_from, log_of, sum_of}
use Rattle.machine.proofs.Encoded.{fields_packed, decode_encode, op_encode}
use Rattle.machine.proofs.Appended.{logged_open, logged_other}
use Rattle.plans.specs.declared.Header.{Header}
use Rattle.plans.specs.Limits.{far}
use Rattle.plans.specs.Regions.{address}
use Rattle.plans.specs.Outline.{fixed, Cell, Outline, start, cell_of, instructions}
use Rattle.plans.specs.Outline as Outline
use Rattle.plans.specs.Method1 as Method1
use Rattle.plans.specs.Method2 as Method2
use Rattle.plans.specs.Method3 as Method3
use Rattle.plans.specs.Method4 as Method4
use Rattle.plans.specs.Method5 as Method5
use Rattle.plans.specs.Plan.{header_word, Accepted, instructions_of, plan_of, verdict_cell, published}
use Rattle.plans.proofs.Blocks.{sum_append, sum_map}
use Rattle.plans.proofs.Weights.{outline_weight, outline_weight_is}
use Rattle.plans.proofs.Outlines.{Ends, here, past_line, past_run, past_each, past_again, before_last}
use Rattle.plans.proofs.Bounds.{square_le}
use Rattle.plans.proofs.Headers.{header, each_method}
use Rattle.plans.proofs.Addresses.{fits_plan}
use Rattle.plans.proofs.Figures.{length_plan}
use Rattle.limits.specs.Refusal.{log_length_of}
use Rattle.demands.specs.Run.{opened_at}

-- ---- how many words open a cell

-- 1 for OPEN's op.
abbrev opening : (op : ℕ) → ℕ
opening op = cond (eqb op 7) 1 0

abbrev opens : (word : ℕ) → ℕ
opens w = opening (op_field w)

abbrev opened : List ℕ → ℕ
opened = sum_of opens

-- Words of which none opens a cell are their own log.
quiet : (ws : List ℕ) (cells : List ℤ) → opened ws ≡ 0 → log_from ws cells ≡ ws
unfolding log_from sum_of
quiet [] cells e = refl
quiet (w ∷ ws) cells e =
    ap₂ ◌++◌ (logged_other w cells (λ q. omega (arith, ap opening q)))
    (quiet ws (carried w cells) (omega arith))

log_append : (xs ys : List ℕ) (cells : List ℤ)
    → log_from (xs ++ ys) cells ≡ log_from xs cells ++ log_from ys (cells_after xs cells)
unfolding log_from cells_after
log_append [] ys cells = refl
log_append (x ∷ xs) ys cells =
    ap (λ l. logged x cells ++ l) (log_append xs ys (carried x cells)) ∙ sym (append_assoc (logged x cells) _ _)

after_append : (xs ys : List ℕ) (cells : List ℤ) → cells_after (xs ++ ys) cells ≡ cells_after ys (cells_after xs cells)
unfolding cells_after
after_append [] ys cells = refl
after_append (x ∷ xs) ys cells = after_append xs ys (carried x cells)

-- Of words of which the last alone opens a cell: they, and that cell of those left.
module _ (ws : List ℕ) (a : ℕ) (fits : Fits (OPEN a)) (cells : List ℤ) where
  abbrev final : ℕ
  final = encode (OPEN a)

  abbrev before : List ℤ
  before = cells_after ws cells

  nothing_done : carried final before ≡ before
  unfolding carry perform
  nothing_done = ap (λ o. carry o before) (decode_encode (OPEN a) fits)

  left_before : cells_after (ws ++ final ∷ []) cells ≡ before
  unfolding cells_after
  left_before = after_append ws (final ∷ []) cells ∙ nothing_done

  log_last : opened (ws ++ final ∷ []) ≡ 1
      → log_from (ws ++ final ∷ []) cells
      ≡ (ws ++ final ∷ []) ++ bits_of 64 (cell_at (cells_after (ws ++ final ∷ []) cells) a) ∷ []
  unfolding log_from sum_of
  log_last e =
      let op : op_field final ≡ 7 = op_encode (OPEN a) fits in
      let at : a_field final ≡ a = (fields_packed 7 0 a 0 (omega arith) (omega arith) (omega arith) (omega arith)).a_is in
      let none : opened ws ≡ 0 = omega (arith, sum_append opens ws (final ∷ []), ap opening op) in
      log_append ws (final ∷ []) cells
      ∙ ap₂ ◌++◌ (quiet ws cells none) (ap (λ l. l ++ []) (logged_open final before op))
      ∙ rw (left_before, at) (simp append_assoc)

-- ---- the words of an outline

module _ (name : (region place : ℕ) → ℕ) (n m source : ℕ) (o : Outline) (cells : List ℤ) where
  abbrev is : List (Instruction ℕ)
  is = instructions name far n m source o start

  abbrev words : List ℕ
  words = map encode is

  opened_words : (k : ℕ) → outline_weight n m opening o ≡ k → All Fits is → opened words ≡ k
  opened_words k e fits =
      sum_map Fits (λ i. opening (op_of i)) encode opens (λ i f. ap opening (op_encode i f)) is fits
      ∙ outline_weight_is name far n m source opening o start
      ∙ e

  -- Nothing opened: the words are their own log.
  log_quiet : outline_weight n m opening o ≡ 0 → All Fits is → log_from words cells ≡ words
  log_quiet e fits = quiet words cells (opened_words 0 e fits)

  -- One cell opened, by the last word.
  module _ (a : Cell) where
    abbrev flag : ℕ
    flag = cell_of name far n m source start a

    log_opens : Ends (Outline.opens a) o → outline_weight n m opening o ≡ 1 → All Fits is → Fits (OPEN flag)
        → log_from words cells ≡ words ++ bits_of 64 (cell_at (cells_after words cells) flag) ∷ []
    log_opens e one fits f =
        let (front, s) = before_last name far n m source (Outline.opens a) start e in
        let split : words ≡ map encode front ++ encode (OPEN flag) ∷ [] = ap (map encode) s ∙ map-append encode front (OPEN flag ∷ []) in
        rw split (log_last (map encode front) flag f cells (rw split at (opened_words 1 one fits)))

-- ---- the plan of a header

pub log_plan : (h : Header) → Accepted h → (cells : List ℤ)
    → log_of (plan_of h) cells ≡ plan_of h ++ opened_at (verdict_cell h) (cells_after (drop 1 (plan_of h)) cells)
unfolding plan_of log_of instructions_of verdict_cell Method1.plan Method2.plan Method3.plan Method4.plan Method5.plan sum_of
log_plan =
    each_method
    (λ h. (cells : List ℤ) → log_of (plan_of h) cells ≡ plan_of h ++ opened_at (verdict_cell h) (cells_after (drop 1 (plan_of h)) cells))
    (λ n m source a cells.
    ap (λ (l : List ℕ). header_word (header 1 n m source) ∷ l)
    (log_opens (address (Method1.starts n m)) n m source Method1.outline cells (Method1.X (fixed 7))
    (past_run (past_line (past_line (past_again (past_each here))))) (omega arith) (fits_plan (header 1 n m source) a) (omega arith)))
    (λ n source a cells.
    ap (λ (l : List ℕ). header_word (header 2 n 0 source) ∷ l)
    (log_quiet (address (Method2.starts n)) n 0 source Method2.outline cells (omega arith) (fits_plan (header 2 n 0 source) a)
    ∙ sym (append-nil _)))
    (λ n m source a cells.
    ap (λ (l : List ℕ). header_word (header 3 n m source) ∷ l)
    (log_opens (address (Method3.starts n m)) n m source Method3.outline cells (Method3.X (fixed 8))
    (past_run (past_line (past_line (past_line (past_each (past_again (past_each (past_run here))))))))
    (omega arith) (fits_plan (header 3 n m source) a) (omega arith)))
    (λ n m a cells.
    ap (λ (l : List ℕ). header_word (header 4 n m 0) ∷ l)
    (log_opens (address (Method4.starts n m)) n m 0 Method4.outline cells (Method4.X (fixed 5))
    (past_run (past_line (past_line (past_again (past_line (past_line (past_each (past_run (past_each (past_each (past_run (past_line (past_each here)))))))))))))
    (omega arith) (fits_plan (header 4 n m 0) a) (omega (arith, square_le n a.vertices_few))))
    (λ n m source a cells.
    ap (λ (l : List ℕ). header_word (header 5 n m source) ∷ l)
    (log_opens (address (Method5.starts n m)) n m source Method5.outline cells (Method5.X (fixed 7))
    (past_run (past_line (past_line (past_again (past_each (past_run (past_each (past_line (past_each here)))))))))
    (omega arith) (fits_plan (header 5 n m source) a) (omega arith)))

opened_length : (cell : Option ℕ) (left : List ℤ) → length (opened_at cell left) ≡ length (published cell 0)
opened_length none left = refl
opened_length (some cell) left = refl

pub log_length_is : (h : Header) → Accepted h → (cells : List ℤ) → length (log_of (plan_of h) cells) ≡ log_length_of h
unfolding log_length_of
log_length_is h a cells =
    ap length (log_plan h a cells)
    ∙ length-append (plan_of h) _
    ∙ rw (length_plan h a, opened_length (verdict_cell h) (cells_after (drop 1 (plan_of h)) cells))
