-- The starting cells: which source each has, how strips laid one after the other give them, and what each cell then holds.
-- Rests on Sizes and Copied.
use mathlib.Core.Path.{◌≡◌, refl, sym, ap, ◌∙◌}
use mathlib.Core.Logic.{◌⊎◌, inl, inr, ⊎_elim}
use mathlib.Core.Bool.{Bool, true, false, cond}
use mathlib.Core.List.{List, [], ◌∷◌, ◌++◌}
use Prim.Native.Nat.{ℕ, zero, suc, ◌+◌, ◌-◌, ◌*◌, ◌^◌, ◌<◌, ◌≤◌, zero-le}
use native.Mathlib.Nat.{zero-add, add-zero}
use native.Mathlib.Numerals.{add-one}
use native.Mathlib.Omega.{arith}
use lib.Arith.{digits_lt}
use lib.Dec.{leb, ltb}
use lib.IntN.{ℤ, pos}
use lib.ListN.{length, get_or, drop, replicate, drop_of_length-le}
use lib.Seq.{sets, length-sets, drop-cons, ext_get_or}
use borrow.Author.Tests.{lt-ltb, leb-true, leb-false, ltb-true, ltb-false}
use Rattle.fields.specs.Fields.{signed_of}
use Rattle.machine.specs.Effect.{cell_at}
use Rattle.machine.specs.Instruction.{All}
use Rattle.plans.specs.declared.Header.{Header}
use Rattle.plans.specs.Blocks.{flat}
use Rattle.plans.specs.Regions.{cell}
use Rattle.plans.specs.Method2 as Method2
use Rattle.plans.specs.Plan.{Accepted, word_count_of, cells_of}
use Rattle.plans.proofs.Headers.{each_method}
use Rattle.limits.specs.Word.{destination_in, from_field, to_field, weight_of}
use Rattle.limits.proofs.Sizes.{cells_one, cells_two, cells_three, cells_four, cells_five}
use Rattle.intake.specs.declared.Part.TheVariants.{Entry, Whole}
use Rattle.intake.specs.declared.Strip.{Strip}
use Rattle.intake.specs.Intake.{strip, edge_strips, strips_of, Source, nothing, source_in, covers, source_from, source_of, or_far, part_of, laid, copied, starting_cells, strip_numbers, StripFits, empty, most_strips, padded}
use Rattle.intake.proofs.Copied.{ones, copied_long, copied_at, copied_rest, copied_same, set_at, set_beside}

-- ---- which source a cell has

abbrev Beside : (k : ℕ) → Strip → Type 0
Beside k r = r.at ≤ k → r.at + r.count ≤ k

module _ (k : ℕ) where
  in_or_beside : (r : Strip) → ((covers r k ≡ true) × (r.at ≤ k) × (k < r.at + r.count)) ⊎ ((covers r k ≡ false) × Beside k r)
  in_or_beside r = split (leb r.at k) (ltb k (r.at + r.count)) refl refl
    where
      split : (a b : Bool) → leb r.at k ≡ a → ltb k (r.at + r.count) ≡ b
          → ((covers r k ≡ true) × (r.at ≤ k) × (k < r.at + r.count)) ⊎ ((covers r k ≡ false) × Beside k r)
      split true true p q = inl (rw (p, q), leb-true _ _ p, ltb-true _ _ q)
      split true false p q = inr (rw (p, q), λ l. ltb-false _ _ q)
      split false b p q = inr (rw p, λ l. omega (arith, leb-false r.at k p))

  -- No strip covers it.
  source_beside : (rs : List Strip) (s : Source) → All (Beside k) rs → source_from rs k s ≡ s
  source_beside [] s b = refl
  source_beside (r ∷ rs) s b =
      ⊎_elim (λ i. let no : ⊥ = omega (arith, b.0 i.1) in absurd no) (λ o. rw o.0 (source_beside rs s b.1)) (in_or_beside r)

  -- It is the i-th of strip r, and no later one covers it.
  source_in_is : (rs₀ : List Strip) (r : Strip) (rs : List Strip) (i : ℕ) (s : Source) → k ≡ r.at + i → i < r.count → All (Beside k) rs
      → source_from (rs₀ ++ (r ∷ rs)) k s ≡ source_in r i
  source_in_is [] r rs i s e l b =
      let d : k - r.at ≡ i = omega arith in
      ⊎_elim
      (λ t.
      ap (λ (c : Bool). source_from rs k (cond c (source_in r (k - r.at)) s)) t.0
      ∙ source_beside rs (source_in r (k - r.at)) b
      ∙ ap (source_in r) d)
      (λ o. let no : ⊥ = omega (arith, o.1 (omega arith)) in absurd no) (in_or_beside r)
  source_in_is (x ∷ rs₀) r rs i s e l b = source_in_is rs₀ r rs i _ e l b

-- ---- a strip's numbers

-- All of them are laid.
pub strip_done : (r : Strip) (words : List ℕ) (cells₀ cells : List ℤ) (i : ℕ) → i ≤ r.count → r.count ≤ i
    → cells ≡ sets cells₀ r.at (ones i (λ j. part_of r.part (get_or words (r.word + j) 0)))
    → cells ≡ sets cells₀ r.at (strip_numbers r words)
unfolding laid
strip_done r words cells₀ cells i g l e =
    let n : i ≡ r.count = omega arith in e ∙ ap (λ (k : ℕ). sets cells₀ r.at (ones k (λ j. part_of r.part (get_or words (r.word + j) 0)))) n

-- ---- strips laid over cells that have their sources

-- Strips laid one after the other.
abbrev pub lay_all : List ℕ → List Strip → List ℤ → List ℤ
lay_all ws [] cells = cells
lay_all ws (r ∷ rs) cells = lay_all ws rs (sets cells r.at (strip_numbers r ws))

module _ (ws : List ℕ) (words count : ℕ) (lent : List ℤ) (enough : count ≤ length lent) where
  -- The first `count` cells by their sources.
  abbrev cells_by : (ℕ → Source) → List ℤ
  cells_by s = copied count (λ k. laid ws (s k)) lent

  module _ (r : Strip) (fits : StripFits words count r) (s : ℕ → Source) where
    -- The sources once r is laid.
    abbrev under : ℕ → Source
    under k = cond (covers r k) (source_in r (k - r.at)) (s k)

    long : (t : ℕ → Source) → length (cells_by t) ≡ length lent
    long t = copied_long count (λ k. laid ws (t k)) lent enough

    at_cell : (k : ℕ) → get_or (sets (cells_by s) r.at (strip_numbers r ws)) k (pos 0) ≡ get_or (cells_by under) k (pos 0)
    at_cell k =
        ⊎_elim
        (λ t.
        let e : k ≡ r.at + (k - r.at) = omega (arith, t.1) in
        let u : under k ≡ source_in r (k - r.at) = rw t.0 in
        ap (λ (j : ℕ). get_or (sets (cells_by s) r.at (strip_numbers r ws)) j (pos 0)) e
        ∙ set_at (λ i. laid ws (source_in r i)) (cells_by s) r.at r.count (k - r.at) (omega (arith, t.1, t.2)) (omega (arith, long s))
        ∙ sym (copied_at count (λ j. laid ws (under j)) lent k (omega (arith, t.2)) ∙ ap (laid ws) u))
        (λ o.
        let u : under k ≡ s k = rw o.0 in
        set_beside (λ i. laid ws (source_in r i)) (cells_by s) r.at r.count k o.1
        ∙ copied_same count (λ j. laid ws (s j)) (λ j. laid ws (under j)) lent k (sym (ap (laid ws) u)))
        (in_or_beside k r)

    strip_laid : sets (cells_by s) r.at (strip_numbers r ws) ≡ cells_by under
    strip_laid =
        ext_get_or (pos 0) _ _ (length-sets (cells_by s) r.at (strip_numbers r ws) ∙ long s ∙ sym (long under)) (λ k l. at_cell k)

  -- Strips one after the other.
  strips_laid : (rs : List Strip) (s : ℕ → Source) → All (StripFits words count) rs
      → lay_all ws rs (cells_by s) ≡ cells_by (λ k. source_from rs k (s k))
  strips_laid [] s fits = refl
  strips_laid (r ∷ rs) s fits =
      ap (lay_all ws rs) (strip_laid r fits.0 s) ∙ strips_laid rs (under r fits.0 s) fits.1

-- ---- a header's strips

module _ (h : Header) where
  strips_one : h.method ≡ 1 → strips_of h ≡ edge_strips h.edges h.edges (2 * h.edges)
  unfolding strips_of
  strips_one e = rw e

  strips_two : h.method ≡ 2 → strips_of h ≡ strip 0 (h.vertices * h.vertices) 0 Entry ∷ []
  unfolding strips_of
  strips_two e = rw e

  strips_three : h.method ≡ 3 → strips_of h ≡ edge_strips h.edges (h.edges + 1) (2 * h.edges + 1)
  unfolding strips_of
  strips_three e = rw e

  strips_four : h.method ≡ 4 → strips_of h ≡ edge_strips h.edges h.edges (2 * h.edges)
  unfolding strips_of
  strips_four e = rw e

  strips_five : h.method ≡ 5
      → strips_of h
      ≡ edge_strips h.edges h.edges (2 * h.edges) ++ (strip (3 * h.edges + 3 * h.vertices + 8) 1 h.edges Whole ∷ [])
  unfolding strips_of
  strips_five e = rw e

-- ---- the array of a header's strips

unpadded : (ws : List ℕ) (n : ℕ) (rs : List Strip) (cells : List ℤ) → lay_all ws (rs ++ replicate n empty) cells ≡ lay_all ws rs cells
unfolding flat
unpadded ws zero [] cells = refl
unpadded ws (suc n) [] cells = unpadded ws n [] cells
unpadded ws n (r ∷ rs) cells = unpadded ws n rs (sets cells r.at (strip_numbers r ws))

-- What holds of the strips and of the empty one holds at each place.
module _ (P : Strip → Type 0) (none : P empty) where
  padded_at : (n : ℕ) (rs : List Strip) → All P rs → (k : ℕ) → P (get_or (rs ++ replicate n empty) k empty)
  padded_at zero [] a k = none
  padded_at (suc n) [] a zero = none
  padded_at (suc n) [] a (suc k) = padded_at n [] tt k
  padded_at n (r ∷ rs) a zero = a.0
  padded_at n (r ∷ rs) a (suc k) = padded_at n rs a.1 k

strips_fit : (h : Header) → Accepted h → All (StripFits (word_count_of h) (cells_of h)) (strips_of h)
unfolding strips_of word_count_of cells_of
strips_fit =
    each_method (λ h. All (StripFits (word_count_of h) (cells_of h)) (strips_of h))
    (λ n m source a. search arith)
    (λ n source a. search arith)
    (λ n m source a. search arith)
    (λ n m a. search arith)
    (λ n m source a. search arith)

-- ---- the whole

-- What intake begins with: the needed cells cleared, and the array of the header's strips.
pub record Begun (h : Header) (ws : List ℕ) (lent cleared : List ℤ) (rs : List Strip) : Type 0 where
  pub accepted : Accepted h
  pub counted : length ws ≡ word_count_of h
  pub enough : cells_of h ≤ length lent
  pub clear : cleared ≡ copied (cells_of h) (λ k. pos 0) lent
  pub strips : rs ≡ padded (strips_of h)
  pub many : length rs ≡ most_strips

pub begin : {h : Header} {ws : List ℕ} {lent cleared : List ℤ} {rs : List Strip}
    → Accepted h → (length ws ≡ word_count_of h) × (cells_of h ≤ length lent)
    → (count : ℕ) → count ≡ cells_of h → cleared ≡ copied count (λ k. pos 0) lent
    → rs ≡ padded (strips_of h) → length rs ≡ most_strips → Begun h ws lent cleared rs
begin a r count count_is clear strips many =
    record { accepted = a; counted = r.0; enough = r.1; clear = rw count_is at clear; strips = strips; many = many }

-- Before strip k: laying what is left gives what laying all of them to the cleared cells gives.
pub record Laying (ws : List ℕ) (rs : List Strip) (cleared cells : List ℤ) (k : ℕ) : Type 0 where
  pub long : length cells ≡ length cleared
  pub rest : lay_all ws (drop k rs) cells ≡ lay_all ws rs cleared

pub start : (ws : List ℕ) (rs : List Strip) (cleared : List ℤ) → Laying ws rs cleared cleared 0
start ws rs cleared = record { long = refl; rest = refl }

module _ {h : Header} {ws : List ℕ} {lent cleared cells : List ℤ} {rs : List Strip} {k : ℕ}
    (b : Begun h ws lent cleared rs) (laying : Laying ws rs cleared cells k) where
  pub kept : length cells ≡ length lent
  kept = laying.long ∙ ap length b.clear ∙ copied_long (cells_of h) (λ k. pos 0) lent b.enough

  abbrev now : Strip
  now = get_or rs k empty

  pub fits_now : StripFits (length ws) (length cells) now
  fits_now =
      let none : StripFits (word_count_of h) (cells_of h) empty = record { read = zero-le; written = zero-le } in
      let f = padded_at (StripFits (word_count_of h) (cells_of h)) none (most_strips - length (strips_of h)) (strips_of h) (strips_fit h b.accepted) k in
      rw b.strips (record { read = omega (arith, f.read, b.counted); written = omega (arith, f.written, b.enough, kept) })

  pub again : k < most_strips → (next : List ℤ) → next ≡ sets cells now.at (strip_numbers now ws) → Laying ws rs cleared next (k + 1)
  again l next e =
      let left = drop-cons rs k empty (omega (arith, b.many)) in
      record {
        long = rw e (length-sets cells now.at (strip_numbers now ws) ∙ laying.long);
        rest = rw (e, add-one k) (sym (ap (λ (ts : List Strip). lay_all ws ts cells) left) ∙ laying.rest);
      }

  pub all_laid : most_strips ≤ k → cells ≡ starting_cells h ws lent
  unfolding starting_cells source_of laid
  all_laid l =
      let none_left = drop_of_length-le rs {i = k} (omega (arith, b.many)) in
      sym (ap (λ (ts : List Strip). lay_all ws ts cells) none_left)
      ∙ laying.rest
      ∙ rw (b.strips, b.clear)
      (unpadded ws (most_strips - length (strips_of h)) (strips_of h) _
      ∙ strips_laid ws (word_count_of h) (cells_of h) lent b.enough (strips_of h) (λ k. nothing) (strips_fit h b.accepted))

-- ---- what each cell then holds

module _ (h : Header) (ws : List ℕ) (lent : List ℤ) where
  pub start_long : cells_of h ≤ length lent → length (starting_cells h ws lent) ≡ length lent
  unfolding starting_cells
  start_long = copied_long (cells_of h) (λ k. laid ws (source_of h k)) lent

  pub start_needed : (k : ℕ) → k < cells_of h → cell_at (starting_cells h ws lent) k ≡ laid ws (source_of h k)
  unfolding starting_cells
  start_needed = copied_at (cells_of h) (λ k. laid ws (source_of h k)) lent

  pub start_rest : (k : ℕ) → cells_of h ≤ k → cell_at (starting_cells h ws lent) k ≡ cell_at lent k
  unfolding starting_cells
  start_rest = copied_rest (cells_of h) (λ k. laid ws (source_of h k)) lent

  -- ---- by name

  -- The i-th cell of strip r, which no later one covers.
  named : (rs₀ : List Strip) (r : Strip) (rs : List Strip) → strips_of h ≡ rs₀ ++ (r ∷ rs) → (k i : ℕ) → k ≡ r.at + i → i < r.count
      → All (Beside k) rs → k < cells_of h → cell_at (starting_cells h ws lent) k ≡ part_of r.part (get_or ws (r.word + i) 0)
  unfolding source_of laid
  named rs₀ r rs e k i p l b n =
      start_needed k n
      ∙ ap (λ (ts : List Strip). laid ws (source_from ts k nothing)) e
      ∙ ap (laid ws) (source_in_is k rs₀ r rs i nothing p l b)

  -- Edges, with their to-vertices and weights from these cells on.
  pub record EdgesLaid (to weight : ℕ) : Type 0 where
    pub from_is : (i : ℕ) → i < h.edges → cell_at (starting_cells h ws lent) (0 + i) ≡ pos (from_field (get_or ws i 0))
    pub to_is : (i : ℕ) → i < h.edges → cell_at (starting_cells h ws lent) (to + i) ≡ pos (to_field (get_or ws i 0))
    pub weight_is : (i : ℕ) → i < h.edges → cell_at (starting_cells h ws lent) (weight + i) ≡ weight_of (get_or ws i 0)

  -- The strips of the edges, and others that are beside them.
  edges_laid : (to weight : ℕ) (rs : List Strip) → strips_of h ≡ edge_strips h.edges to weight ++ rs
      → h.edges ≤ to → to + h.edges ≤ weight → weight + h.edges ≤ cells_of h → ((k : ℕ) → k < weight + h.edges → All (Beside k) rs)
      → EdgesLaid to weight
  edges_laid to weight rs strips after after_to inside beside =
      record {
        from_is =
            λ i l.
            rw zero-add
            (rw zero-add at
            (named [] _ _ strips i i (omega arith) l (λ (g : to ≤ i). omega arith, (λ (g : weight ≤ i). omega arith, beside i (omega arith))) (omega arith)));
        to_is =
            λ i l.
            rw zero-add at
            (named (_ ∷ []) _ _ strips (to + i) i refl l (λ (g : weight ≤ to + i). omega arith, beside (to + i) (omega arith)) (omega arith));
        weight_is =
            λ i l. rw zero-add at (named (_ ∷ _ ∷ []) _ _ strips (weight + i) i refl l (beside (weight + i) (omega arith)) (omega arith));
      }

  pub edges_one : h.method ≡ 1 → EdgesLaid h.edges (2 * h.edges)
  edges_one e = edges_laid _ _ [] (strips_one h e) (omega arith) (omega arith) (omega (arith, cells_one h e)) (λ k l. tt)

  pub edges_three : h.method ≡ 3 → EdgesLaid (h.edges + 1) (2 * h.edges + 1)
  edges_three e = edges_laid _ _ [] (strips_three h e) (omega arith) (omega arith) (omega (arith, cells_three h e)) (λ k l. tt)

  pub edges_four : h.method ≡ 4 → EdgesLaid h.edges (2 * h.edges)
  edges_four e = edges_laid _ _ [] (strips_four h e) (omega arith) (omega arith) (omega (arith, cells_four h e)) (λ k l. tt)

  pub edges_five : h.method ≡ 5 → EdgesLaid h.edges (2 * h.edges)
  edges_five e =
      edges_laid _ _ _ (strips_five h e) (omega arith) (omega arith) (omega (arith, cells_five h e))
      (λ k (l : k < 2 * h.edges + h.edges). (λ (g : 3 * h.edges + 3 * h.vertices + 8 ≤ k). omega arith, tt))

  -- Method 5's destination.
  pub destination_laid : h.method ≡ 5 → 0 < h.vertices → destination_in h ws < 2 ^ 63
      → cell_at (starting_cells h ws lent) (3 * h.edges + 3 * h.vertices + 8) ≡ pos (destination_in h ws)
  unfolding signed_of
  destination_laid e some small =
      let m = h.edges in
      let whole = named (_ ∷ _ ∷ _ ∷ []) _ [] (strips_five h e) (3 * m + 3 * h.vertices + 8) 0 (omega arith) (omega arith) tt (omega (arith, cells_five h e)) in
      rw (add-zero m) at whole ∙ rw (lt-ltb (destination_in h ws) (2 ^ 63) small)

  pub entry_laid : h.method ≡ 2 → (u j : ℕ) → u < h.vertices → j < h.vertices
      → cell_at (starting_cells h ws lent) (cell (Method2.starts h.vertices) (Method2.U (u * h.vertices + j)))
      ≡ or_far (weight_of (get_or ws (u * h.vertices + j) 0))
  entry_laid two u j p q =
      let k = u * h.vertices + j in
      let l : k < h.vertices * h.vertices = digits_lt {q = u} {m = h.vertices} {r = j} {c = h.vertices} p q in
      rw zero-add (rw zero-add at (named [] _ _ (strips_two h two) k k (omega arith) l tt (omega (arith, cells_two h two))))
