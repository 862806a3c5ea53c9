-- Which cells a plan names and which numbers it holds: all of a plan's cells are there, those that results are copied from too, and every
-- field of its words fits.
-- Rests on outlines and on the machine's laws of words.
use mathlib.Core.Bool.{Bool, true, false, cond}
use Prim.Native.Nat.{ℕ, ◌+◌, ◌*◌, ◌^◌, ◌<◌, ◌≤◌}
use native.Mathlib.Omega.{arith}
use lib.Arith.{digits_lt}
use lib.Dec.{T, eqb}
use lib.IntN.{ℤ, pos, negsuc}
use lib.ListN.{drop}
use lib.Signed.{mag}
use Rattle.machine.specs.Instruction.{Instruction, addresses, constants, All}
use Rattle.machine.specs.Word.{Fits, encode, admissible}
use Rattle.machine.specs.Log.{Admitted}
use Rattle.machine.proofs.Encoded.{admissible_encode}
use Rattle.plans.specs.declared.Counters.{Counters}
use Rattle.plans.specs.declared.Header.{Header}
use Rattle.plans.specs.Limits.{far}
use Rattle.plans.specs.Regions.{address}
use Rattle.plans.specs.Outline as Outline
use Rattle.plans.specs.Outline.{fixed, at, after, entry, small, minus_one, unreached, counted, from_source, Line, set, copy, add, less, equal, both, moveif, opens, Outline, counter, start, cell_of, number_of, instruction_of, instructions}
use Rattle.plans.specs.Method1 as Method1
use Rattle.plans.specs.Method2 as Method2
use Rattle.plans.specs.Method3 as Method3
use Rattle.plans.specs.Method4 as Method4
use Rattle.plans.specs.Method5 as Method5
use Rattle.plans.specs.Plan.{Accepted, instructions_of, plan_of, cells_of, Kind, results_of}
use Rattle.plans.proofs.Blocks.{all_both, all_map}
use Rattle.plans.proofs.Outlines.{Under, once, under, Each, all_lines}
use Rattle.plans.proofs.Bounds.{square_le, edges_le}
use Rattle.plans.proofs.EachKind.{each_kind}
use Rattle.plans.proofs.Headers.{each_method}

-- ---- what holds of an outline's cells and numbers, whatever the counters, holds of its plan's

module _ {A : Type 0} (Cell : A → Type 0) (Number : ℤ → Type 0) where
  abbrev pub Keeps : Instruction A → Type 0
  Keeps i = All Cell (addresses i) × All Number (constants i)

  module _ (name : (region place : ℕ) → A) (far : ℤ) (n m : ℕ) where
    -- Cell holds of each place that the spot takes while the counters are below b.
    abbrev KeptCell : (b : Counters) → Outline.Cell → Type 0
    KeptCell b (r, fixed j) = Cell (name r j)
    KeptCell b (r, at l) = (i : ℕ) → i < counter l b → Cell (name r i)
    KeptCell b (r, after l) = (i : ℕ) → i < counter l b → Cell (name r (i + 1))
    KeptCell b (r, entry l c) = ((i : ℕ) → i < counter l b * n → Cell (name r i)) × (counter c b ≤ n)

    abbrev KeptNumber : (b : Counters) → Outline.Number → Type 0
    KeptNumber b (small j) = Number (pos j)
    KeptNumber b minus_one = Number (negsuc 0)
    KeptNumber b unreached = Number far
    KeptNumber b (counted l) = (i : ℕ) → i < counter l b → Number (pos i)
    KeptNumber b from_source = Number (pos 0) × Number far

    abbrev KeptLine : (b : Counters) → Line → Type 0
    KeptLine b (set d z) = KeptCell b d × KeptNumber b z
    KeptLine b (copy d a) = KeptCell b d × KeptCell b a
    KeptLine b (add d x y) = KeptCell b d × KeptCell b x × KeptCell b y
    KeptLine b (less d x y) = KeptCell b d × KeptCell b x × KeptCell b y
    KeptLine b (equal d x y) = KeptCell b d × KeptCell b x × KeptCell b y
    KeptLine b (both d x y) = KeptCell b d × KeptCell b x × KeptCell b y
    KeptLine b (moveif d x y) = KeptCell b d × KeptCell b x × KeptCell b y
    KeptLine b (opens a) = KeptCell b a

    abbrev pub Kept : Outline → Type 0
    Kept o = Each n m KeptLine o once

    module _ (source : ℕ) where
      kept_cell : (c : Outline.Cell) (b k : Counters) → Under b k → KeptCell b c → Cell (cell_of name far n m source k c)
      kept_cell (r, fixed j) b k u h = h
      kept_cell (r, at l) b k u h = h _ (under l b k u)
      kept_cell (r, after l) b k u h = h _ (under l b k u)
      kept_cell (r, entry l c) b k u h = h.0 _ (digits_lt (under l b k u) (omega (arith, under c b k u)))

      either : (t : Bool) {x y : ℤ} → Number x → Number y → Number (cond t x y)
      either true p q = p
      either false p q = q

      kept_number : (z : Outline.Number) (b k : Counters) → Under b k → KeptNumber b z → Number (number_of far source k z)
      kept_number (small j) b k u h = h
      kept_number minus_one b k u h = h
      kept_number unreached b k u h = h
      kept_number (counted l) b k u h = h _ (under l b k u)
      kept_number from_source b k u h = either (eqb k.inner source) h.0 h.1

      kept_line : (x : Line) (b k : Counters) → Under b k → KeptLine b x → Keeps (instruction_of name far n m source k x)
      kept_line (set d z) b k u h = search (kept_cell, kept_number)
      kept_line (copy d a) b k u h = search kept_cell
      kept_line (add d x y) b k u h = search kept_cell
      kept_line (less d x y) b k u h = search kept_cell
      kept_line (equal d x y) b k u h = search kept_cell
      kept_line (both d x y) b k u h = search kept_cell
      kept_line (moveif d x y) b k u h = search kept_cell
      kept_line (opens a) b k u h = search kept_cell

      pub keeps : (o : Outline) → Kept o → All Keeps (instructions name far n m source o start)
      keeps o h = all_lines name far n m source Keeps KeptLine kept_line o once start (omega arith) h

-- ---- the plan of a header

-- Cells below a count, numbers of 40 bits.
abbrev pub Below : (count : ℕ) → Instruction ℕ → Type 0
Below count = Keeps (λ a. a < count) (λ z. mag z < 2 ^ 39)

-- A call of `search` takes so many steps only: one for each of the outline's first parts.
pub below_plan : (h : Header) → Accepted h → (count : ℕ) → cells_of h ≤ count → All (Below count) (instructions_of h)
unfolding instructions_of cells_of Method1.plan Method2.plan Method3.plan Method4.plan Method5.plan
below_plan =
    each_method (λ h. (count : ℕ) → cells_of h ≤ count → All (Below count) (instructions_of h))
    (λ n m source a count l.
    keeps _ _ (address (Method1.starts n m)) far n m source Method1.outline
    (search arith, (search arith, (search arith, (search arith, search arith)))))
    (λ n source a count l.
    keeps _ _ (address (Method2.starts n)) far n 0 source Method2.outline (search arith, search arith))
    (λ n m source a count l.
    keeps _ _ (address (Method3.starts n m)) far n m source Method3.outline
    (search arith, (search arith, (search arith, (search arith, search arith)))))
    (λ n m a count l.
    keeps _ _ (address (Method4.starts n m)) far n m 0 Method4.outline
    (search arith, (search arith, (search arith, (search arith, (search arith, (search arith, (search arith, (search arith, (search arith, (search arith, (search arith, search arith))))))))))))
    (λ n m source a count l.
    keeps _ _ (address (Method5.starts n m)) far n m source Method5.outline
    (search arith, (search arith, (search arith, (search arith, (search arith, (search arith, search arith)))))))

-- No plan needs more than the largest one of method 3.
pub cells_few : (h : Header) → Accepted h → cells_of h ≤ 8874
unfolding cells_of
cells_few =
    each_method (λ h. cells_of h ≤ 8874) (λ n m source a. omega arith)
    (λ n source a. omega (arith, square_le n (omega arith)))
    (λ n m source a. omega (arith, edges_le m a.edges_few n 32 a.vertices_few, a.vertices_few, a.edges_few))
    (λ n m a. omega (arith, square_le n a.vertices_few, a.vertices_few, a.edges_few))
    (λ n m source a. omega (arith, a.vertices_few, a.edges_few))

pub results_inside : (h : Header) → Accepted h → (k : Kind) → (results_of h k).first + (results_of h k).count ≤ cells_of h
unfolding results_of cells_of
results_inside =
    each_method (λ h. (k : Kind) → (results_of h k).first + (results_of h k).count ≤ cells_of h)
    (λ n m source a. each_kind _ (omega arith) (omega arith) (omega arith))
    (λ n source a. each_kind _ (omega arith) (omega arith) (omega arith))
    (λ n m source a. each_kind _ (omega arith) (omega arith) (omega arith))
    (λ n m a. each_kind _ (omega arith) (omega arith) (omega arith))
    (λ n m source a. each_kind _ (omega arith) (omega arith) (omega (arith, a.vertices_some)))

pub fits_plan : (h : Header) → Accepted h → All Fits (instructions_of h)
fits_plan h a = below_plan h a (2 ^ 20) (omega (arith, cells_few h a))

pub admitted_plan : (h : Header) → Accepted h → (count : ℕ) → cells_of h ≤ count → Admitted count (drop 1 (plan_of h))
unfolding plan_of
admitted_plan h a count l =
    all_map (λ i. Fits i × Below count i) encode (λ w. T (admissible count w))
    (λ i b. admissible_encode count i b.0 b.1.0) (instructions_of h)
    (all_both Fits (Below count) (instructions_of h) (fits_plan h a) (below_plan h a count l))
