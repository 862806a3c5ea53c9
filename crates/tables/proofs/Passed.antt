-- The loop that writes rows one after another, each with its own: its invariant and its laws.
-- Rests on Expanded and Written.
use mathlib.Core.Path.{◌≡◌, refl, sym, ap, ◌∙◌}
use mathlib.Core.List.{List, [], ◌∷◌, ◌++◌, map, append_assoc, append-nil}
use Prim.Native.Nat.{ℕ, ◌+◌, ◌-◌, ◌^◌, ◌<◌, ◌≤◌}
use native.Mathlib.Omega.{arith}
use lib.ListN.{length, get_or, set, take, drop, length-take, length-drop, length-map}
use lib.Seq.{take_all}
use Rattle.plans.specs.declared.Counters.{Counters}
use Rattle.plans.specs.Outline as Outline
use Rattle.rows.specs.declared.Moving.{Moving}
use Rattle.rows.specs.declared.Over.{Over}
use Rattle.rows.specs.declared.Row.{Row}
use Rattle.rows.specs.declared.Row.TheVariants.{Word, Loop}
use Rattle.rows.specs.Table.{word_of, Inside, expand}
use Rattle.rows.specs.Code.{row_of_code}
use Rattle.tables.specs.Writing.{size_of, block, unrolled, RoomAt, Ready, Wrote, lines_words, Writable}
use Rattle.tables.proofs.Written.{nothing, one, then, ahead}
use Rattle.tables.proofs.Expanded.{own_there, next_row}

-- What is written, and the words of the rows that are left, are the whole.
pub record Passed (source : ℕ) (k : Counters) (whole before now : List ℕ) (at place : ℕ) (rest : List Row) : Type 0 where
  pub inside : Inside (length rest) rest
  pub words : List ℕ
  pub puts : Wrote words before now at place
  pub is : words ++ block source rest k ≡ whole

pub start : (source : ℕ) (rows : List Row) (k : Counters) (b : List ℕ) (at : ℕ) → Inside (length rows) rows
    → Passed source k (block source rows k) b b at at rows
start source rows k b at i = record { inside = i; words = []; puts = nothing b at; is = refl }

-- Rows from a place on, as the code takes them; and after the first.
abbrev tail : (n : ℕ) → List Row → List Row
tail n rows = take (length rows - n) (drop n rows)

tail_is : (n : ℕ) (rows : List Row) → tail n rows ≡ drop n rows
tail_is n rows = take_all (length rows - n) (drop n rows) (omega (arith, length-drop n rows))

abbrev pub after : List Row → List Row
after rest = tail 1 rest

-- Fewer than before: those after the first, a loop's own, and those left after it.
pub fewer : (rest : List Row) → 1 ≤ length rest → (size : ℕ)
    → (length (after rest) < length rest)
    × (length (take size (after rest)) < length rest)
    × (length (tail size (after rest)) < length rest)
fewer [] h size = let no : ⊥ = omega arith in absurd no
fewer (x ∷ xs) h size =
    rw (tail_is 1 (x ∷ xs), tail_is size xs) (omega arith, omega (arith, length-take size xs), omega (arith, length-drop size xs))

module _ {source : ℕ} {k : Counters} {whole before now : List ℕ} {at place : ℕ} where
  module _ (x : Row) (xs : List Row) (p : Passed source k whole before now at place (x ∷ xs)) where
    abbrev own : List Row
    own = take (size_of x) xs

    there : (size_of x ≤ length xs) × Inside (length own) own × Inside (length (drop (size_of x) xs)) (drop (size_of x) xs)
    there = own_there x xs p.inside

    split : p.words ++ (unrolled source x own k ++ block source (drop (size_of x) xs) k) ≡ whole
    split = ap (λ (ws : List ℕ). p.words ++ ws) (sym (next_row source x xs k)) ∙ p.is

    ready_cons : RoomAt whole before at → Ready own (unrolled source x own k) now place
    ready_cons room = record { inside = there.1; room = ahead p.puts _ _ whole split room }

    next_cons : {now' : List ℕ} {place' : ℕ} → Wrote (unrolled source x own k) now now' place place'
        → Passed source k whole before now' at place' (drop (size_of x) xs)
    next_cons q =
        record {
          inside = there.2;
          words = p.words ++ unrolled source x own k;
          puts = then p.puts q;
          is = append_assoc p.words (unrolled source x own k) _ ∙ split;
        }

  -- A word comes next.
  pub word_room : (rest : List Row) (d : Row) {x : Moving} → Passed source k whole before now at place rest → 1 ≤ length rest
      → get_or rest 0 d ≡ Word x → RoomAt whole before at → (word_of source x k < 2 ^ 64) × (place < length now)
  unfolding unrolled
  word_room [] d p h e room = let no : ⊥ = omega arith in absurd no
  word_room (y ∷ xs) d p h e room = let s = rw e at (ready_cons y xs p room).room in (s.small.0, omega (arith, s.fits))

  pub word_next : (rest : List Row) (d : Row) {x : Moving} → Passed source k whole before now at place rest → 1 ≤ length rest
      → get_or rest 0 d ≡ Word x → (w : ℕ) → w ≡ word_of source x k
      → Passed source k whole before (set now place w) at (place + 1) (after rest)
  unfolding unrolled
  word_next [] d p h e w i = let no : ⊥ = omega arith in absurd no
  word_next (y ∷ xs) d {x} p h e w i =
      let q : Wrote (unrolled source y (take (size_of y) xs) k) now (set now place w) place (place + 1) =
      rw (e, i) (one now place (word_of source x k)) in
      let s : Passed source k whole before (set now place w) at (place + 1) (drop (size_of y) xs) = next_cons y xs p q in
      rw (tail_is 1 (y ∷ xs)) (rw e at s)

  -- A loop comes next.
  pub loop_fits : (rest : List Row) (d : Row) {over : Over} {turns rows : ℕ} → Passed source k whole before now at place rest
      → 1 ≤ length rest → get_or rest 0 d ≡ Loop over turns rows → rows ≤ length (after rest)
  loop_fits [] d p h e = let no : ⊥ = omega arith in absurd no
  loop_fits (y ∷ xs) d p h e = rw tail_is (rw e at (there y xs p).0)

  pub loop_ready : (rest : List Row) (d : Row) {over : Over} {turns rows : ℕ} (n : ℕ) → Passed source k whole before now at place rest
      → 1 ≤ length rest → get_or rest 0 d ≡ Loop over turns rows → RoomAt whole before at
      → Ready (take rows (after rest)) (unrolled source (Loop over turns n) (take rows (after rest)) k) now place
  unfolding unrolled
  loop_ready [] d n p h e room = let no : ⊥ = omega arith in absurd no
  loop_ready (y ∷ xs) d n p h e room = rw (tail_is 1 (y ∷ xs)) (rw e at (ready_cons y xs p room))

  pub loop_next : (rest : List Row) (d : Row) {over : Over} {turns rows : ℕ} (n : ℕ) → Passed source k whole before now at place rest
      → 1 ≤ length rest → get_or rest 0 d ≡ Loop over turns rows → {now' : List ℕ} {place' : ℕ}
      → Wrote (unrolled source (Loop over turns n) (take rows (after rest)) k) now now' place place'
      → Passed source k whole before now' at place' (tail rows (after rest))
  unfolding unrolled
  loop_next [] d n p h e q = let no : ⊥ = omega arith in absurd no
  loop_next (y ∷ xs) d {rows = rows} n p h e {now'} {place'} q =
      let r : Wrote (unrolled source y (take (size_of y) xs) k) now now' place place' = rw e (rw (tail_is 1 (y ∷ xs)) at q) in
      let s : Passed source k whole before now' at place' (drop (size_of y) xs) = next_cons y xs p r in
      rw (tail_is 1 (y ∷ xs), tail_is rows xs) (rw e at s)

pub done : {source : ℕ} {k : Counters} {whole before now : List ℕ} {at place : ℕ} (rest : List Row)
    → Passed source k whole before now at place rest → length rest < 1 → Wrote whole before now at place
unfolding block expand
done [] p h = let e : p.words ≡ _ = sym (append-nil p.words) ∙ p.is in rw e at p.puts
done (x ∷ rest) p h = let no : ⊥ = omega arith in absurd no

-- ---- the rows of a plan's lines

module _ (n : ℕ) (env lines : List ℕ) (source : ℕ) (rows : List Row) (is : rows ≡ map (row_of_code n env) lines) where
  pub lines_ready : {out : List ℕ} {at : ℕ} → Writable n env lines source out at → Ready rows (block source rows Outline.start) out at
  unfolding block lines_words
  lines_ready w =
      let e = length-map lines (row_of_code n env) in
      record { inside = rw (is, e) w.inside; room = rw (is, e) w.room }

  pub lines_put : {out after : List ℕ} {at next : ℕ} → Wrote (block source rows Outline.start) out after at next
      → Wrote (lines_words n env lines source) out after at next
  unfolding block lines_words
  lines_put p = let e = length-map lines (row_of_code n env) in rw (is, e) at p
