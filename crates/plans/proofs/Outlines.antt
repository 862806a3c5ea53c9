-- Outlines, for every method: what holds of each line holds of the whole plan; a plan at other addresses; one outline and then another; a plan that
-- ends in a line.
-- Rests on blocks.
use mathlib.Core.Path.{◌≡◌, refl, sym, ap, ap₂, ◌∙◌}
use mathlib.Core.List.{List, [], ◌∷◌, ◌++◌, map, map-append, append_assoc}
use Prim.Native.Nat.{ℕ, ◌<◌}
use lib.IntN.{ℤ}
use Rattle.machine.specs.Instruction.{Instruction, SET, COPY, ADD, LESS, EQUAL, BOTH, MOVEIF, OPEN, All}
use Rattle.plans.specs.declared.Counters.{Counters}
use Rattle.plans.specs.Blocks.{flat}
use Rattle.plans.specs.Outline.{Level, outer, middle, inner, Count, Line, set, copy, add, less, equal, both, moveif, opens, Outline, end, line, run, each, again, joined, counter, counted_to, times_of, instruction_of, instructions}
use Rattle.plans.proofs.Blocks.{all_blocks, all_map, map_flat}

-- ---- what holds of each line

-- Counters below their bounds.
abbrev pub Under : (b k : Counters) → Type 0
Under b k = (k.outer < b.outer) × (k.middle < b.middle) × (k.inner < b.inner)

-- Bounds outside all loops.
abbrev pub once : Counters
once = record { outer = 1; middle = 1; inner = 1 }

pub under : (l : Level) (b k : Counters) → Under b k → counter l k < counter l b
under outer b k u = u.0
under middle b k u = u.1
under inner b k u = u.2

turned : (l : Level) (t j : ℕ) (b k : Counters) → j < t → Under b k → Under (counted_to l t b) (counted_to l j k)
turned outer t j b k h u = (h, u.1, u.2)
turned middle t j b k h u = (u.0, h, u.2)
turned inner t j b k h u = (u.0, u.1, h)

-- Q holds of each line, under the bounds of the loops around it.
abbrev pub Each : (n m : ℕ) (Q : (b : Counters) → Line → Type 0) → Outline → (b : Counters) → Type 0
Each n m Q end b = Unit {0}
Each n m Q (line x p) b = Q b x × Each n m Q p b
Each n m Q (run c ls p) b = All (Q (counted_to inner (times_of n m c) b)) ls × Each n m Q p b
Each n m Q (each l c o p) b = Each n m Q o (counted_to l (times_of n m c) b) × Each n m Q p b
Each n m Q (again c o p) b = Each n m Q o b × Each n m Q p b

-- If then P holds of its instruction, it holds of all the plan's.
module _ {A : Type 0} (name : (region place : ℕ) → A) (far : ℤ) (n m source : ℕ)
    (P : Instruction A → Type 0) (Q : (b : Counters) → Line → Type 0)
    (then : (x : Line) (b k : Counters) → Under b k → Q b x → P (instruction_of name far n m source k x)) where
  pub all_lines : (o : Outline) (b k : Counters) → Under b k → Each n m Q o b → All P (instructions name far n m source o k)
  unfolding instructions
  all_lines end b k u h = tt
  all_lines (line x p) b k u h = (then x b k u h.0, all_lines p b k u h.1)
  all_lines (run c ls p) b k u h =
      all_blocks P (times_of n m c) (λ j. map (instruction_of name far n m source (counted_to inner j k)) ls) _
      (λ j s. all_map _ _ P (λ x. then x _ _ (turned inner _ j b k s u)) ls h.0) (all_lines p b k u h.1)
  all_lines (each l c o p) b k u h =
      all_blocks P (times_of n m c) (λ j. instructions name far n m source o (counted_to l j k)) _
      (λ j s. all_lines o _ _ (turned l _ j b k s u) h.0) (all_lines p b k u h.1)
  all_lines (again c o p) b k u h =
      all_blocks P (times_of n m c) (λ j. instructions name far n m source o k) _ (λ j s. all_lines o b k u h.0)
      (all_lines p b k u h.1)

-- ---- other addresses

-- The instruction at other addresses.
abbrev pub renamed : {A B : Type 0} (g : A → B) → Instruction A → Instruction B
renamed g (SET d c) = SET (g d) c
renamed g (COPY d a) = COPY (g d) (g a)
renamed g (ADD d a b) = ADD (g d) (g a) (g b)
renamed g (LESS d a b) = LESS (g d) (g a) (g b)
renamed g (EQUAL d a b) = EQUAL (g d) (g a) (g b)
renamed g (BOTH d a b) = BOTH (g d) (g a) (g b)
renamed g (MOVEIF d a b) = MOVEIF (g d) (g a) (g b)
renamed g (OPEN a) = OPEN (g a)

module _ {A B : Type 0} (g : A → B) (name : (region place : ℕ) → A) (far : ℤ) (n m source : ℕ) where
  abbrev there : (region place : ℕ) → B
  there r p = g (name r p)

  line_renamed : (k : Counters) (x : Line)
      → renamed g (instruction_of name far n m source k x) ≡ instruction_of there far n m source k x
  line_renamed k (set d z) = refl
  line_renamed k (copy d a) = refl
  line_renamed k (add d a b) = refl
  line_renamed k (less d a b) = refl
  line_renamed k (equal d a b) = refl
  line_renamed k (both d a b) = refl
  line_renamed k (moveif d a b) = refl
  line_renamed k (opens a) = refl

  lines_renamed : (k : Counters) (ls : List Line)
      → map (renamed g) (map (instruction_of name far n m source k) ls) ≡ map (instruction_of there far n m source k) ls
  lines_renamed k [] = refl
  lines_renamed k (x ∷ ls) = ap₂ ◌∷◌ (line_renamed k x) (lines_renamed k ls)

  pub plan_renamed : (o : Outline) (k : Counters)
      → map (renamed g) (instructions name far n m source o k) ≡ instructions there far n m source o k
  unfolding instructions
  plan_renamed end k = refl
  plan_renamed (line x p) k = ap₂ ◌∷◌ (line_renamed k x) (plan_renamed p k)
  plan_renamed (run c ls p) k = simp (map-append, map_flat, lines_renamed, plan_renamed p)
  plan_renamed (each l c b p) k = simp (map-append, map_flat, plan_renamed b, plan_renamed p)
  plan_renamed (again c b p) k = simp (map-append, map_flat, plan_renamed b, plan_renamed p)

-- ---- one outline and then another

module _ {A : Type 0} (name : (region place : ℕ) → A) (far : ℤ) (n m source : ℕ) (k : Counters) where
  pub instructions_joined : (p q : Outline)
      → instructions name far n m source (joined p q) k ≡ instructions name far n m source p k ++ instructions name far n m source q k
  unfolding instructions
  instructions_joined end q = refl
  instructions_joined (line x p) q = ap (λ l. instruction_of name far n m source k x ∷ l) (instructions_joined p q)
  instructions_joined (run c ls p) q = simp (instructions_joined p, append_assoc)
  instructions_joined (each l c b p) q = simp (instructions_joined p, append_assoc)
  instructions_joined (again c b p) q = simp (instructions_joined p, append_assoc)

-- ---- the last line

-- An outline that ends in the line x.
pub data Ends (x : Line) : Outline → Type 0 where
  here : Ends x (line x end)
  past_line : {y : Line} {p : Outline} → Ends x p → Ends x (line y p)
  past_run : {c : Count} {ls : List Line} {p : Outline} → Ends x p → Ends x (run c ls p)
  past_each : {l : Level} {c : Count} {b p : Outline} → Ends x p → Ends x (each l c b p)
  past_again : {c : Count} {b p : Outline} → Ends x p → Ends x (again c b p)

-- A list that ends in x, and what is before it.
abbrev pub Before : {X : Type 0} (x : X) (xs : List X) → Type 0
Before {X} x xs = (front : List X) × (xs ≡ front ++ x ∷ [])

further : {X : Type 0} {x : X} (xs ys : List X) → Before x ys → Before x (xs ++ ys)
further {x} xs ys (front, e) = (xs ++ front, ap (λ l. xs ++ l) e ∙ sym (append_assoc xs front (x ∷ [])))

module _ {A : Type 0} (name : (region place : ℕ) → A) (far : ℤ) (n m source : ℕ) (x : Line) (k : Counters) where
  pub before_last : {o : Outline} → Ends x o
      → Before (instruction_of name far n m source k x) (instructions name far n m source o k)
  unfolding instructions
  before_last here = ([], refl)
  before_last (past_line {y} e) = further (instruction_of name far n m source k y ∷ []) _ (before_last e)
  before_last (past_run {c} {ls} e) =
      further (flat (times_of n m c) (λ j. map (instruction_of name far n m source (counted_to inner j k)) ls)) _ (before_last e)
  before_last (past_each {l} {c} {b} e) =
      further (flat (times_of n m c) (λ j. instructions name far n m source b (counted_to l j k))) _ (before_last e)
  before_last (past_again {c} {b} e) =
      further (flat (times_of n m c) (λ j. instructions name far n m source b k)) _ (before_last e)
