-- Rounds as depth (document 02, ask 4): an instruction's depth is the greatest depth of the cells that it reads, plus its column; the cell that it
-- writes takes it. For instructions over any addresses with a test of two of them, and for the words of a log. Rests on instructions and logs.
use Rattle.std.specs.Prelude.{Bool, cond, List, [], ◌∷◌, ℕ, ◌+◌, max, eqb, get_or}
use Rattle.std.proofs.Math.Option.{Option, none, some}
use Rattle.machine.specs.Instruction.{Instruction, SET, COPY, ADD, LESS, EQUAL, BOTH, MOVEIF, OPEN, op_of}
use Rattle.machine.specs.Word.{decode}
use Rattle.machine.specs.Log.{operations}

-- ---- an instruction

-- The column "rounds", by op.
abbrev pub rounds : List ℕ
rounds = 1 ∷ 0 ∷ 0 ∷ 6 ∷ 6 ∷ 1 ∷ 1 ∷ 1 ∷ []

module _ {A : Type 0} where
  -- The cells that it reads: MOVEIF also reads [d]. SET's a and b are no addresses.
  abbrev pub reads : Instruction A → List A
  reads (SET d c) = []
  reads (COPY d a) = a ∷ []
  reads (ADD d a b) = a ∷ b ∷ []
  reads (LESS d a b) = a ∷ b ∷ []
  reads (EQUAL d a b) = a ∷ b ∷ []
  reads (BOTH d a b) = a ∷ b ∷ []
  reads (MOVEIF d a b) = a ∷ b ∷ d ∷ []
  reads (OPEN a) = a ∷ []

  -- The cell that it writes: MOVEIF's [d] whatever [a] holds. OPEN writes none.
  abbrev pub target : Instruction A → Option A
  target (SET d c) = some d
  target (COPY d a) = some d
  target (ADD d a b) = some d
  target (LESS d a b) = some d
  target (EQUAL d a b) = some d
  target (BOTH d a b) = some d
  target (MOVEIF d a b) = some d
  target (OPEN a) = none

  -- The greatest depth among cells, 0 where there are none; `at` gives each cell's.
  abbrev pub deepest : List A → (at : A → ℕ) → ℕ
  deepest [] at = 0
  deepest (a ∷ rest) at = max (at a) (deepest rest at)

  abbrev pub depth : Instruction A → (at : A → ℕ) → ℕ
  depth i at = deepest (reads i) at + get_or rounds (op_of i) 0

-- ---- instructions

module _ {A : Type 0} (same : A → A → Bool) where
  -- The written cell takes x, every other keeps its depth.
  abbrev pub taken : Option A → (x : ℕ) → (at : A → ℕ) → A → ℕ
  taken none x at a = at a
  taken (some d) x at a = cond (same d a) x (at a)

  -- The depths after an instruction.
  abbrev pub deepened : Instruction A → (at : A → ℕ) → A → ℕ
  deepened i at = taken (target i) (depth i at) at

  -- The greatest depth of any of them, 0 if there is none.
  unfoldable pub greatest_from : List (Instruction A) → (at : A → ℕ) → ℕ
  greatest_from [] at = 0
  greatest_from (i ∷ is) at = max (depth i at) (greatest_from is (deepened i at))

  -- A cell's depth starts at 0.
  abbrev pub greatest : List (Instruction A) → ℕ
  greatest is = greatest_from is (λ a. 0)

-- ---- words

abbrev joined : Option (Instruction ℕ) → List (Instruction ℕ) → List (Instruction ℕ)
joined none is = is
joined (some i) is = i ∷ is

-- The instructions of words; a word of no op has none.
unfoldable pub decode_all : (words : List ℕ) → List (Instruction ℕ)
decode_all [] = []
decode_all (w ∷ ws) = joined (decode w) (decode_all ws)

-- The rounds of operation words: the greatest depth of any of them.
unfoldable pub depth_of : (words : List ℕ) → ℕ
depth_of ws = greatest eqb (decode_all ws)

-- A log's charge: the header and the published words are passed over.
unfoldable pub charge_of : (log : List ℕ) → ℕ
charge_of log = depth_of (operations log)
