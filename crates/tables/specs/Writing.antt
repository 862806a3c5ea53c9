-- What the writer's functions promise: the words of rows, part by part, words written to a buffer, and a plan's lines.
-- Rests on rows' tables and codes.
use Rattle.std.specs.Prelude.{◌≡◌, cond, List, [], ◌∷◌, map, ℕ, ◌+◌, ◌*◌, ◌^◌, ◌≤◌, ◌<◌, eqb, length, get_or}
use Rattle.std.proofs.lemmas.List.Edits.{sets}
use Rattle.machine.specs.Instruction.{All}
use Rattle.plans.specs.declared.Counters.{Counters}
use Rattle.plans.specs.Blocks.{flat}
use Rattle.plans.specs.Outline.{inner, counted_to, start}
use Rattle.rows.specs.declared.Moving.{Moving}
use Rattle.rows.specs.declared.Over.{Over}
use Rattle.rows.specs.declared.Row.{Row}
use Rattle.rows.specs.declared.Row.TheVariants.{Word, Loop}
use Rattle.rows.specs.Table.{word_of, moving_of, turned, is_run, expand, Inside}
use Rattle.rows.specs.Code.{row_of_code}

-- ---- the words of rows

-- How many of the rows after a row are its loop's.
abbrev pub size_of : Row → ℕ
size_of (Word x) = 0
size_of (Loop over turns rows) = rows

-- A word where the inner counter is 0; and the word at the inner counter j, `other` being added unless j is the source.
abbrev pub first_of : Moving → Counters → ℕ
first_of x k = x.base + x.outer * k.outer + x.middle * k.middle

abbrev pub word_along : (first step other source j : ℕ) → ℕ
word_along first step other source j = first + step * j + cond (eqb j source) 0 other

-- A row of a run by its place.
abbrev pub moving_at : List Row → (r : ℕ) → Moving
moving_at rows r = get_or (map moving_of rows) r (record { base = 0; outer = 0; middle = 0; inner = 0; other = 0 })

module _ (source : ℕ) where
  -- The words of rows, and of the same rows where all are words.
  unfoldable pub block : List Row → Counters → List ℕ
  block rows k = expand source (length rows) rows k

  unfoldable pub straight : List Row → Counters → List ℕ
  straight rows k = flat (length rows) (λ j. word_of source (moving_at rows j) k ∷ [])

  -- The words of a loop, by how often it turns and its rows: as a run, and any other.
  unfoldable pub running : (turns : ℕ) (rows : List Row) → Counters → List ℕ
  running turns rows k = flat turns (λ j. straight rows (counted_to inner j k))

  unfoldable pub looping : Over → (turns : ℕ) (rows : List Row) → Counters → List ℕ
  looping over turns rows k = flat turns (λ j. block rows (turned over j k))

  -- The words of a row, a word or a loop over the rows that are its own.
  unfoldable pub unrolled : Row → (own : List Row) → Counters → List ℕ
  unrolled (Word x) own k = word_of source x k ∷ []
  unrolled (Loop over turns rows) own k = cond (is_run over) (running turns own k) (looping over turns own k)

-- ---- words written to a buffer

-- The words fit 64 bits and the buffer.
pub record RoomAt (ws out : List ℕ) (at : ℕ) : Type 0 where
  pub small : All (λ w. w < 2 ^ 64) ws
  pub fits : at + length ws ≤ length out

-- The rows are there with all their loops' rows, and there is room for words.
pub record Ready (rows : List Row) (ws out : List ℕ) (at : ℕ) : Type 0 where
  pub inside : Inside (length rows) rows
  pub room : RoomAt ws out at

-- The words are written from `at` on, and `next` is the place after them.
pub record Wrote (ws before after : List ℕ) (at next : ℕ) : Type 0 where
  pub written : after ≡ sets before at ws
  pub ends : next ≡ at + length ws

-- Room for f 0, f 1, .. from `at` on, `size` places apart, as far as `end`: for one at least.
pub record Spacious (f : ℕ → ℕ) (size at end : ℕ) (out : List ℕ) : Type 0 where
  pub some : 0 < size
  pub few : size < 2 ^ 63
  pub begins : at < end
  pub fits : end ≤ length out
  pub small : (j : ℕ) → at + j * size < end → f j < 2 ^ 64

-- f 0, f 1, .. stand from `at` on, `size` places apart, as far as `end`, and all else stays.
pub record Spaced (f : ℕ → ℕ) (size at end : ℕ) (before after : List ℕ) : Type 0 where
  pub long : length after ≡ length before
  pub put : (j : ℕ) → at + j * size < end → get_or after (at + j * size) 0 ≡ f j
  pub stays : (p : ℕ) → ((j : ℕ) → at + j * size < end → p ≡ at + j * size → ⊥) → get_or after p 0 ≡ get_or before p 0

-- The words that were written from `at` to `mid` stand there `count` times.
abbrev pub Repeated : (count : ℕ) (between after : List ℕ) (at mid next : ℕ) → Type 0
Repeated count between after at mid next =
    (ws before : List ℕ) → Wrote ws before between at mid → Wrote (flat count (λ j. ws)) before after at next

-- ---- a plan's lines

module _ (n : ℕ) (env lines : List ℕ) (source : ℕ) where
  -- The words that they stand for.
  unfoldable pub lines_words : List ℕ
  lines_words = expand source (length lines) (map (row_of_code n env) lines) start

  -- What is asked for writing them: no count and no region's start is too large, every loop's lines are there, and room.
  pub record Writable (out : List ℕ) (at : ℕ) : Type 0 where
    pub narrow : n < 2 ^ 19
    pub near : All (λ x. x < 2 ^ 19) env
    pub inside : Inside (length lines) (map (row_of_code n env) lines)
    pub room : RoomAt lines_words out at
