-- What a header asks for, method by method, and which of the refusals 5 to 8 a request meets, by the ways out of `check_sizes`
-- and `results_enough`. Rests on the laws of plans and answers' Unmet.
use mathlib.Core.Path.{◌≡◌, refl, sym, ◌∙◌}
use mathlib.Core.Logic.{◌↔◌}
use mathlib.Core.Bool.{Bool, true, false, not}
use mathlib.Core.Option.{none, some}
use Prim.Native.Nat.{ℕ, ◌+◌, ◌*◌, ◌<◌, ◌≤◌}
use native.Mathlib.Omega.{arith}
use lib.Dec.{leb, eqb, leb→le, le→leb, eqb→eq}
use borrow.Author.Tests.{eq-eqb, ne_eqb, le-leb, lt-leb, not-true, not-false}
use Rattle.answers.specs.Refusal.{Words, Cells, Log, Results, need}
use Rattle.answers.proofs.Unmet.{first_none}
use Rattle.plans.specs.declared.Header.{Header}
use Rattle.plans.specs.Plan.{word_count_of, cells_of, Kind, distances, parents, route, every_kind, results_of, verdict_cell, length_of}
use Rattle.plans.proofs.EachKind.{each_kind, each_kind_is, not_every}
use Rattle.headers.specs.declared.Figures.{Figures}
use Rattle.headers.specs.Figures.{Figured}
use Rattle.limits.specs.declared.Lengths.{Lengths}
use Rattle.limits.specs.Refusal.{log_length_of, room_for, asked_of, sizes_tests, sizes_refusal}

-- ---- what the header asks for

module _ (h : Header) where
  pub words_five : h.method ≡ 5 → h.edges + 1 ≡ word_count_of h
  unfolding word_count_of
  words_five e = rw e

  pub cells_one : h.method ≡ 1 → 3 * h.edges + 3 * h.vertices + 8 ≡ cells_of h
  unfolding cells_of
  cells_one e = rw e

  pub cells_two : h.method ≡ 2 → h.vertices * h.vertices + 5 * h.vertices + 6 ≡ cells_of h
  unfolding cells_of
  cells_two e = rw e

  pub cells_three : h.method ≡ 3 → 2 * (h.vertices * h.edges) + 4 * h.edges + 5 * h.vertices + 10 ≡ cells_of h
  unfolding cells_of
  cells_three e = rw e

  pub cells_four : h.method ≡ 4 → 3 * h.edges + h.vertices * h.vertices + 3 * h.vertices + 6 ≡ cells_of h
  unfolding cells_of
  cells_four e = rw e

  pub cells_five : h.method ≡ 5 → 3 * h.edges + 5 * h.vertices + 8 ≡ cells_of h
  unfolding cells_of
  cells_five e = rw e

  -- size is the plan's length, as the code has it.
  pub log_opened : (size cell : ℕ) → size ≡ length_of h → some cell ≡ verdict_cell h → size + 1 ≡ log_length_of h
  unfolding log_length_of
  log_opened size cell s e = rw (s, ← e)

  pub log_quiet : (size : ℕ) → size ≡ length_of h → none ≡ verdict_cell h → size ≡ log_length_of h
  unfolding log_length_of
  log_quiet size s e = rw (s, ← e) (omega arith)

-- As many places of each kind.
room_asked : (h : Header) (k : Kind) → room_for (asked_of h) k ≡ (results_of h k).count
room_asked h = each_kind _ refl refl refl

-- The lengths asked for, as `lengths_of` has them.
pub lengths_are : (h : Header) (f : Figures) → Figured h f → (log : ℕ) → log ≡ log_length_of h
    → record { cells = f.cells; log = log; distances = f.distances.count; parents = f.parents.count; route = f.route.count } ≡ asked_of h
lengths_are h f is log l =
    λ i.
    record {
      cells = is.cells_are i;
      log = l i;
      distances = (is.results_are distances i).count;
      parents = (is.results_are parents i).count;
      route = (is.results_are route i).count;
    }

-- ---- none of 5 to 8

pub record Sized (h : Header) (words : ℕ) (lent : Lengths) : Type 0 where
  pub counted : words ≡ word_count_of h
  pub cells : cells_of h ≤ lent.cells
  pub log : log_length_of h ≤ lent.log
  pub results : (k : Kind) → (results_of h k).count ≤ room_for lent k

pub sizes_none : (h : Header) (words : ℕ) (lent : Lengths) → (sizes_refusal h words lent ≡ none) ↔ Sized h words lent
unfolding sizes_refusal
sizes_none h words lent =
    let enough : Kind → Bool = λ k. leb (room_for (asked_of h) k) (room_for lent k) in
    let tests = first_none (sizes_tests h words lent) in (
      λ e.
          let (counted, (cells, (log, (results, _)))) = tests.0 e in
          record {
            counted = eqb→eq words (word_count_of h) counted;
            cells = leb→le (cells_of h) lent.cells cells;
            log = leb→le (log_length_of h) lent.log log;
            results = λ k. rw (room_asked h k) at (leb→le (room_for (asked_of h) k) (room_for lent k) ((each_kind_is enough).0 results k));
          },
      λ s.
          let results =
          (each_kind_is enough).1 (λ k. le→leb (room_for (asked_of h) k) (room_for lent k) (rw (room_asked h k) (s.results k))) in
          tests.1 (
            rw (eq-eqb words (word_count_of h) s.counted) tt,
            (le→leb (cells_of h) lent.cells s.cells, (le→leb (log_length_of h) lent.log s.log, (results, tt))),
          ),
    )

-- ---- 5 to 8, by the ways out of `check_sizes`

-- count and asked are what the code has of the header.
module _ (h : Header) (words : ℕ) (lent : Lengths) (count : ℕ) (count_is : count ≡ word_count_of h) (asked : Lengths) (asked_is : asked ≡ asked_of h) where
  pub words_other : (words ≡ count → ⊥) → some Words ≡ sizes_refusal h words lent
  unfolding sizes_refusal
  words_other n = rw (ne_eqb words (word_count_of h) (rw count_is at n))

  module _ (w : words ≡ count) where
    counted : eqb words (word_count_of h) ≡ true
    counted = eq-eqb words (word_count_of h) (w ∙ count_is)

    pub cells_short : lent.cells < asked.cells → some Cells ≡ sizes_refusal h words lent
    unfolding sizes_refusal
    cells_short a = simp (counted, lt-leb (cells_of h) lent.cells (rw asked_is at a))

    module _ (c : asked.cells ≤ lent.cells) where
      enough_cells : leb (cells_of h) lent.cells ≡ true
      enough_cells = le-leb (cells_of h) lent.cells (rw asked_is at c)

      pub log_short : lent.log < asked.log → some Log ≡ sizes_refusal h words lent
      unfolding sizes_refusal
      log_short a = simp (counted, enough_cells, lt-leb (log_length_of h) lent.log (rw asked_is at a))

      -- e is whether every results buffer is long enough.
      module _ (l : asked.log ≤ lent.log) (e : Bool) (e_is : e ≡ every_kind (λ k. leb (room_for asked k) (room_for lent k))) where
        by_results : sizes_refusal h words lent ≡ need e Results none
        unfolding sizes_refusal
        by_results =
            simp (
              counted,
              enough_cells,
              le-leb (log_length_of h) lent.log (rw asked_is at l),
              e_is,
              asked_is,
            )

        pub results_short : not e ≡ true → some Results ≡ sizes_refusal h words lent
        results_short short = rw (by_results, not-true e short)

        pub sizes_met : not e ≡ false → none ≡ sizes_refusal h words lent
        sizes_met enough = rw (by_results, not-false e enough)

-- ---- whether results buffers are long enough, by the ways out of `results_enough`

module _ (asked lent : Lengths) where
  abbrev enough : Kind → Bool
  enough k = leb (room_for asked k) (room_for lent k)

  pub distances_short : lent.distances < asked.distances → false ≡ every_kind enough
  distances_short a = sym (not_every enough distances (lt-leb asked.distances lent.distances a))

  pub parents_short : lent.parents < asked.parents → false ≡ every_kind enough
  parents_short a = sym (not_every enough parents (lt-leb asked.parents lent.parents a))

  pub by_route : asked.distances ≤ lent.distances → asked.parents ≤ lent.parents → leb asked.route lent.route ≡ every_kind enough
  by_route d p = rw (le-leb asked.distances lent.distances d, le-leb asked.parents lent.parents p)
