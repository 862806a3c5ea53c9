-- A plan's lines that have the rows of an outline stand for its words, whatever its regions. Rests on rows' Emitted.
use mathlib.Core.Path.{◌≡◌, ap}
use mathlib.Core.List.{List, map}
use Prim.Native.Nat.{ℕ, ◌^◌, ◌<◌, ◌≤◌}
use native.Mathlib.Omega.{arith}
use lib.ListN.{length, length-map}
use Rattle.machine.specs.Instruction.{All}
use Rattle.machine.specs.Word.{encode}
use Rattle.plans.specs.Limits.{far}
use Rattle.plans.specs.Regions.{address}
use Rattle.plans.specs.Outline.{Outline, start, instructions}
use Rattle.rows.specs.Rows.{env_of, rows_of}
use Rattle.rows.specs.Code.{row_of_code}
use Rattle.rows.proofs.Emitted.{inside, emits}
use Rattle.tables.specs.Writing.{RoomAt, Wrote, lines_words, Writable}

-- The lines have the rows of the outline.
abbrev pub SameRows : (n : ℕ) (env lines : List ℕ) → Outline → Type 0
SameRows n env lines o = map (row_of_code n env) lines ≡ rows_of n env o

module _ (n m source : ℕ) (starts lines : List ℕ) (o : Outline) (rows : SameRows n (env_of n m starts) lines o) where
  abbrev plan : List ℕ
  plan = map encode (instructions (address starts) far n m source o start)

  few : length (rows_of n (env_of n m starts) o) ≤ length lines
  few = omega (arith, ap length rows, length-map lines (row_of_code n (env_of n m starts)))

  words : lines_words n (env_of n m starts) lines source ≡ plan
  unfolding lines_words
  words = rw rows (emits n m source starts o start (length lines) few)

  pub may_write : {out : List ℕ} {at : ℕ} → n < 2 ^ 19 → All (λ x. x < 2 ^ 19) (env_of n m starts) → RoomAt plan out at
      → Writable n (env_of n m starts) lines source out at
  may_write narrow near room =
      record {
        narrow = narrow;
        near = near;
        inside = rw rows (inside n (env_of n m starts) o (length lines) few);
        room = rw words room;
      }

  pub was_written : {out after : List ℕ} {at next : ℕ} → Wrote (lines_words n (env_of n m starts) lines source) out after at next
      → Wrote plan out after at next
  was_written p = rw words at p
