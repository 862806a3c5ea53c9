-- Outlines: a plan written down once, line by line in its document's order, for every header and every type of addresses; and the
-- instructions that it stands for. Rests on the instructions and on blocks.
use Rattle.std.specs.Prelude.{cond, List, [], ◌∷◌, ◌++◌, map, ℕ, ◌+◌, ◌-◌, ◌*◌, eqb, ℤ, pos, negsuc}
use Rattle.machine.specs.Instruction.{Instruction, SET, COPY, ADD, LESS, EQUAL, BOTH, MOVEIF, OPEN}
use Rattle.plans.specs.declared.Counters.{Counters}
use Rattle.plans.specs.Blocks.{flat}

-- ---- the words of an outline

-- The counters of the loops around a line, the outermost first.
pub data Level : Type 0 where
  outer middle inner : Level

-- How often a loop turns: n, n - 1, m, or a number of its own.
pub data Count : Type 0 where
  vertices : Count
  others : Count
  edges : Count
  times : (k : ℕ) → Count

-- A place in a region: a fixed one, a counter's, the one after it, or row * n + column.
pub data Spot : Type 0 where
  fixed : (j : ℕ) → Spot
  at : Level → Spot
  after : Level → Spot
  entry : (row column : Level) → Spot

-- A region's number, and a place in it.
abbrev pub Cell : Type 0
Cell = ℕ × Spot

-- What SET writes: a small number, -1, FAR, a counter, or 0 where the inner counter is the source, else FAR.
pub data Number : Type 0 where
  small : (j : ℕ) → Number
  minus_one : Number
  unreached : Number
  counted : Level → Number
  from_source : Number

pub data Line : Type 0 where
  set : (d : Cell) (z : Number) → Line
  copy : (d a : Cell) → Line
  add : (d a b : Cell) → Line
  less : (d a b : Cell) → Line
  equal : (d a b : Cell) → Line
  both : (d a b : Cell) → Line
  moveif : (d a b : Cell) → Line
  opens : (a : Cell) → Line

-- A line, or a loop, and what follows it.
pub data Outline : Type 0 where
  end : Outline
  line : (x : Line) (rest : Outline) → Outline
  -- The lines, for each value of the inner counter.
  run : (count : Count) (lines : List Line) (rest : Outline) → Outline
  -- The body, for each value of a counter.
  each : (level : Level) (count : Count) (body rest : Outline) → Outline
  -- The body, which uses no counter of this loop, again and again.
  again : (count : Count) (body rest : Outline) → Outline

-- To be read as "then".
infixr 60 ◌▸◌
abbrev pub ◌▸◌ : (Outline → Outline) → Outline → Outline
f ▸ o = f o

-- One outline, and then another.
abbrev pub joined : (first second : Outline) → Outline
joined end q = q
joined (line x p) q = line x (joined p q)
joined (run c ls p) q = run c ls (joined p q)
joined (each l c b p) q = each l c b (joined p q)
joined (again c b p) q = again c b (joined p q)

-- ---- what it stands for

abbrev pub counter : Level → Counters → ℕ
counter outer k = k.outer
counter middle k = k.middle
counter inner k = k.inner

abbrev pub counted_to : Level → (j : ℕ) → Counters → Counters
counted_to outer j k = record { outer = j; middle = k.middle; inner = k.inner }
counted_to middle j k = record { outer = k.outer; middle = j; inner = k.inner }
counted_to inner j k = record { outer = k.outer; middle = k.middle; inner = j }

abbrev pub start : Counters
start = record { outer = 0; middle = 0; inner = 0 }

abbrev pub times_of : (n m : ℕ) → Count → ℕ
times_of n m vertices = n
times_of n m others = n - 1
times_of n m edges = m
times_of n m (times k) = k

abbrev pub spot_of : (n : ℕ) → Counters → Spot → ℕ
spot_of n k (fixed j) = j
spot_of n k (at l) = counter l k
spot_of n k (after l) = counter l k + 1
spot_of n k (entry r c) = counter r k * n + counter c k

abbrev pub number_of : (far : ℤ) (source : ℕ) → Counters → Number → ℤ
number_of far source k (small j) = pos j
number_of far source k minus_one = negsuc 0
number_of far source k unreached = far
number_of far source k (counted l) = pos (counter l k)
number_of far source k from_source = cond (eqb k.inner source) (pos 0) far

-- `name` gives the address of a region's place.
module _ {A : Type 0} (name : (region place : ℕ) → A) (far : ℤ) (n m source : ℕ) where
  abbrev pub cell_of : Counters → Cell → A
  cell_of k (region, spot) = name region (spot_of n k spot)

  abbrev pub instruction_of : Counters → Line → Instruction A
  instruction_of k (set d z) = SET (cell_of k d) (number_of far source k z)
  instruction_of k (copy d a) = COPY (cell_of k d) (cell_of k a)
  instruction_of k (add d a b) = ADD (cell_of k d) (cell_of k a) (cell_of k b)
  instruction_of k (less d a b) = LESS (cell_of k d) (cell_of k a) (cell_of k b)
  instruction_of k (equal d a b) = EQUAL (cell_of k d) (cell_of k a) (cell_of k b)
  instruction_of k (both d a b) = BOTH (cell_of k d) (cell_of k a) (cell_of k b)
  instruction_of k (moveif d a b) = MOVEIF (cell_of k d) (cell_of k a) (cell_of k b)
  instruction_of k (opens a) = OPEN (cell_of k a)

  unfoldable pub instructions : Outline → Counters → List (Instruction A)
  instructions end k = []
  instructions (line x p) k = instruction_of k x ∷ instructions p k
  instructions (run c ls p) k = flat (times_of n m c) (λ j. map (instruction_of (counted_to inner j k)) ls) ++ instructions p k
  instructions (each l c b p) k = flat (times_of n m c) (λ j. instructions b (counted_to l j k)) ++ instructions p k
  instructions (again c b p) k = flat (times_of n m c) (λ j. instructions b k) ++ instructions p k
