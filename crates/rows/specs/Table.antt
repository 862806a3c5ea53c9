-- Tables: rows that are words or loops, and the words that they stand for. Rests on blocks and outlines.
use Rattle.std.specs.Prelude.{Bool, true, false, cond, List, [], ◌∷◌, ◌++◌, map, ℕ, zero, suc, ◌+◌, ◌*◌, ◌≤◌, eqb, length, take, drop}
use Rattle.plans.specs.declared.Counters.{Counters}
use Rattle.plans.specs.Blocks.{flat}
use Rattle.plans.specs.Outline as Outline
use Rattle.plans.specs.Outline.{counted_to}
use Rattle.rows.specs.declared.Moving.{Moving}
use Rattle.rows.specs.declared.Over.{Over}
use Rattle.rows.specs.declared.Level.TheVariants.{Outer, Middle, Inner}
use Rattle.rows.specs.declared.Over.TheVariants.{Counter, Nothing, Run}
use Rattle.rows.specs.declared.Row.{Row}
use Rattle.rows.specs.declared.Row.TheVariants.{Word, Loop}

-- A word at the counters.
unfoldable pub word_of : (source : ℕ) → Moving → Counters → ℕ
word_of source x k =
    x.base
    + x.outer * k.outer
    + x.middle * k.middle
    + x.inner * k.inner
    + cond (eqb k.inner source) 0 x.other

-- A row of a run: a word. A loop, which no plan has there, counts for a word of its turns and its rows.
abbrev pub moving_of : Row → Moving
moving_of (Word x) = x
moving_of (Loop over turns rows) = record { base = turns; outer = rows; middle = 0; inner = 0; other = 0 }

-- The counters in turn j of a loop.
abbrev pub turned : Over → (j : ℕ) → Counters → Counters
turned (Counter Outer) j k = counted_to Outline.outer j k
turned (Counter Middle) j k = counted_to Outline.middle j k
turned (Counter Inner) j k = counted_to Outline.inner j k
turned Nothing j k = k
turned Run j k = k

abbrev pub is_run : Over → Bool
is_run (Counter level) = false
is_run Nothing = false
is_run Run = true

-- The words that rows stand for. The depth is no less than the number of rows.
unfoldable pub expand : (source depth : ℕ) → List Row → Counters → List ℕ
expand source zero xs k = []
expand source (suc depth) [] k = []
expand source (suc depth) (Word x ∷ xs) k = word_of source x k ∷ expand source depth xs k
expand source (suc depth) (Loop over turns rows ∷ xs) k =
    cond (is_run over)
    (flat turns (λ j. map (λ y. word_of source (moving_of y) (counted_to Outline.inner j k)) (take rows xs)))
    (flat turns (λ j. expand source depth (take rows xs) (turned over j k)))
    ++ expand source depth (drop rows xs) k

-- Every loop's rows are there.
unfoldable pub Inside : (depth : ℕ) → List Row → Type 0
Inside zero xs = Unit {0}
Inside (suc depth) [] = Unit {0}
Inside (suc depth) (Word x ∷ xs) = Inside depth xs
Inside (suc depth) (Loop over turns rows ∷ xs) = (rows ≤ length xs) × Inside depth (take rows xs) × Inside depth (drop rows xs)
