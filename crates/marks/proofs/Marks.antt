-- Marks in the cells: what a look at one tells, what a new one changes, and that the cells are had back from the log. Rests on
-- deepening's Words and Deepening.
use mathlib.Core.Path.{◌≡◌, refl, sym, ap, ◌∙◌}
use mathlib.Core.Bool.{true, false, cond, and-false}
use mathlib.Core.List.{List}
use Prim.Native.Nat.{ℕ, zero, suc, ◌+◌, ◌-◌, ◌^◌, ◌<◌, ◌≤◌, max}
use native.Mathlib.Numerals.{add-one}
use native.Mathlib.Omega.{arith}
use lib.Dec.{ltb, eqb}
use lib.IntN.{ℤ, pos}
use lib.ListN.{length, get_or, set, drop, length-set}
use lib.Seq.{get_or-set_same, get_or-set_other, drop-set-lt}
use lib.Signed.{mag}
use borrow.Author.Tests.{lt-ltb, le-ltb, ltb-true, ltb-false, eq-eqb, ne_eqb, eqb-true, eqb-false}
use Rattle.lists.proofs.Test.{by_test}
use Rattle.lists.proofs.Sets.{set_at, set_back}
use Rattle.fields.specs.Fields.{field_of, join_of, signed_of, bits_of}
use Rattle.fields.proofs.Joined.{field_low, field_up, field_all}
use Rattle.fields.proofs.Twos.{bits_signed, signed_bits}
use Rattle.machine.specs.Effect.{cell_at}
use Rattle.machine.specs.Word.{FieldsAre, op_field, d_field, decode_at}
use Rattle.machine.specs.Log.{opens}
use Rattle.machine.specs.Depth.{depth_of}
use Rattle.deepening.specs.Word.{depth_by, Deepens}
use Rattle.marks.specs.Place.{writes_to, mark_depth, depths_at, put_back, undone, Saved}
use Rattle.deepening.proofs.Words.{deepens_open, deepens_other}
use Rattle.deepening.proofs.Deepening.{Deepening, start, next, done}

-- ---- a look at a mark

module _ (words : List ℕ) (k mark a : ℕ) where
  pub not_yet : k ≤ field_of 0 24 mark → 0 ≡ mark_depth words k mark a
  unfolding mark_depth
  not_yet h = rw (le-ltb (field_of 0 24 mark) k h)

  pub not_its : writes_to (get_or words (field_of 0 24 mark) 0) a ≡ false → 0 ≡ mark_depth words k mark a
  unfolding mark_depth
  not_its e = rw (e, and-false)

  pub its : field_of 0 24 mark < k → writes_to (get_or words (field_of 0 24 mark) 0) a ≡ true → field_of 24 40 mark ≡ mark_depth words k mark a
  unfolding mark_depth
  its h e = rw (lt-ltb (field_of 0 24 mark) k h, e)

-- Before the first word no cell is marked.
pub none_marked : (words : List ℕ) (cells : List ℤ) (a : ℕ) → depths_at words cells 0 a ≤ 0
unfolding mark_depth
none_marked words cells a = rw (le-ltb (field_of 0 24 (bits_of 64 (cell_at cells a))) 0 (omega arith)) (omega arith)

-- ---- a new mark

module _ (words : List ℕ) (k : ℕ) where
  -- Word k makes no mark of a cell that it does not write.
  pub unmarked : (mark a : ℕ) → writes_to (get_or words k 0) a ≡ false → mark_depth words (k + 1) mark a ≡ mark_depth words k mark a
  unmarked mark a e =
      by_test (ltb (field_of 0 24 mark) k)
      (λ t.
      let l = ltb-true (field_of 0 24 mark) k t in
      by_test (writes_to (get_or words (field_of 0 24 mark) 0) a)
      (λ w. sym (its words (k + 1) mark a (omega arith) w) ∙ its words k mark a l w)
      (λ w. sym (not_its words (k + 1) mark a w) ∙ not_its words k mark a w))
      (λ t.
      let l = ltb-false (field_of 0 24 mark) k t in
      by_test (eqb (field_of 0 24 mark) k)
      (λ q.
      sym (not_its words (k + 1) mark a (ap (λ (j : ℕ). writes_to (get_or words j 0) a) (eqb-true (field_of 0 24 mark) k q) ∙ e))
      ∙ not_yet words k mark a l)
      (λ q.
      let n = eqb-false (field_of 0 24 mark) k q in
      sym (not_yet words (k + 1) mark a (omega (arith, n))) ∙ not_yet words k mark a l))

  module _ (x : ℕ) (deep : x < 2 ^ 39) (few : k < 2 ^ 24) where
    abbrev mark : ℕ
    mark = join_of x k 24

    by_itself : field_of 0 24 mark ≡ k
    by_itself = field_low x k 24 few

    in_it : field_of 24 40 mark ≡ x
    in_it = field_up x k 24 few 0 40 ∙ field_all x 40 (omega arith)

    marked : (a : ℕ) → writes_to (get_or words k 0) a ≡ true → mark_depth words (k + 1) mark a ≡ x
    marked a e =
        sym (its words (k + 1) mark a (omega (arith, by_itself)) (ap (λ (j : ℕ). writes_to (get_or words j 0) a) by_itself ∙ e)) ∙ in_it

    read_back : bits_of 64 (signed_of 64 mark) ≡ mark
    read_back = bits_signed 64 (omega arith) mark (omega arith)

    module _ (cells : List ℤ) (d : ℕ) (there : d < length cells) (is : (a : ℕ) → writes_to (get_or words k 0) a ≡ eqb d a) where
      pub new_mark : (a : ℕ) → depths_at words (set cells d (signed_of 64 mark)) (k + 1) a ≡ cond (eqb d a) x (depths_at words cells k a)
      new_mark a =
          by_test (eqb d a)
          (λ e.
          let q = eqb-true d a e in
          rw (e, ← q, set_at cells d d (signed_of 64 mark) (pos 0) there, eq-eqb d d refl, read_back) (marked d (is d ∙ eq-eqb d d refl)))
          (λ e.
          rw (set_at cells d a (signed_of 64 mark) (pos 0) there, e)
          (unmarked (bits_of 64 (cell_at cells a)) a (is a ∙ e)))

-- ---- a word's mark, with its cell saved

module _ (words : List ℕ) (k : ℕ) {op d a b : ℕ} (f : FieldsAre (get_or words k 0) op d a b) (cells : List ℤ) (log : List ℕ)
    {x : ℕ} (deep : x ≡ depth_by (decode_at op d a b) (depths_at words cells k)) where
  pub open_saved : op ≡ 7 → Saved words k cells log x cells log
  unfolding put_back
  open_saved e =
      let o : opens (get_or words k 0) ≡ true = eq-eqb (op_field (get_or words k 0)) 7 (f.op_is ∙ e) in
      record {
        deepens = still (deepens_open f deep e) (λ c. unmarked words k (bits_of 64 (cell_at cells c)) c (rw o));
        back = rw o;
        before = λ j l. refl;
        beyond = λ n l. refl;
      }
    where
      still : {at at' : ℕ → ℕ} → Deepens (get_or words k 0) at x at → ((c : ℕ) → at' c ≡ at c) → Deepens (get_or words k 0) at x at'
      still h e = record { deep = h.deep; leaves = λ c. e c ∙ h.leaves c }

  pub other_saved : op < 7 → d < length cells → k < length log → k < 2 ^ 24 → x < 2 ^ 39 → mag (cell_at cells d) < 2 ^ 63
      → Saved words k cells log x (set cells d (signed_of 64 (join_of x k 24))) (set log k (bits_of 64 (cell_at cells d)))
  unfolding put_back
  other_saved l there room few low fits =
      let o : opens (get_or words k 0) ≡ false = ne_eqb (op_field (get_or words k 0)) 7 (λ (e : op_field (get_or words k 0) ≡ 7). omega (arith, f.op_is)) in
      record {
        deepens = deepens_other f deep l (new_mark words k x low few cells d there (λ c. rw (o, f.d_is)));
        back =
            rw (o, f.d_is, get_or-set_same log k (bits_of 64 (cell_at cells d)) 0 room, signed_bits 64 (omega arith) (cell_at cells d) fits)
            (set_back cells d (signed_of 64 (join_of x k 24)) (pos 0));
        before = λ j l. get_or-set_other log k j (bits_of 64 (cell_at cells d)) 0 (λ e. omega arith);
        beyond = λ n l. drop-set-lt n log k (bits_of 64 (cell_at cells d)) l;
      }

-- ---- the cells had back

undone_same : (words log log' : List ℕ) (k : ℕ) (cells : List ℤ) → ((j : ℕ) → j < k → get_or log' j 0 ≡ get_or log j 0)
    → undone words log' k cells ≡ undone words log k cells
unfolding undone
undone_same words log log' zero cells h = refl
undone_same words log log' (suc k) cells h =
    rw (h k (omega arith)) (undone_same words log log' k (put_back (get_or words k 0) (get_or log k 0) cells) (λ j l. h j (omega arith)))

pub undone_none : (words log : List ℕ) (k : ℕ) (cells : List ℤ) → k ≡ 0 → undone words log k cells ≡ cells
unfolding undone
undone_none words log k cells e = rw e

pub undone_last : (words log : List ℕ) (k : ℕ) (cells : List ℤ) → 0 < k
    → undone words log k cells ≡ undone words log (k - 1) (put_back (get_or words (k - 1) 0) (get_or log (k - 1) 0) cells)
unfolding undone
undone_last words log zero cells h = let no : ⊥ = omega arith in absurd no
undone_last words log (suc k) cells h = let e : suc k - 1 ≡ k = omega arith in rw e

pub put_back_long : (w saved : ℕ) (cells : List ℤ) → length (put_back w saved cells) ≡ length cells
unfolding put_back
put_back_long w saved cells = by_test (opens w) (λ e. rw e) (λ e. rw e (length-set cells (d_field w) (signed_of 64 saved)))

-- Before word k: the depths so far, and the cells that the marks can be undone to.
pub record Marking (words : List ℕ) (cells₀ : List ℤ) (log₀ : List ℕ) (cells : List ℤ) (log : List ℕ) (rounds k : ℕ) : Type 0 where
  pub within : k ≤ length words
  pub deepening : Deepening words (depths_at words cells k) rounds k
  pub count : length cells ≡ length cells₀
  pub long : length log ≡ length log₀
  pub back : undone words log k cells ≡ cells₀
  pub beyond : drop (length words) log ≡ drop (length words) log₀

pub none_yet : (words : List ℕ) (cells : List ℤ) (log : List ℕ) → Marking words cells log cells log 0 0
unfolding undone
none_yet words cells log =
    record {
      within = omega arith;
      deepening = start words (depths_at words cells 0) (none_marked words cells);
      count = refl;
      long = refl;
      back = refl;
      beyond = refl;
    }

pub one_more : {words : List ℕ} {cells₀ : List ℤ} {log₀ : List ℕ} {cells : List ℤ} {log : List ℕ} {rounds k : ℕ}
    → Marking words cells₀ log₀ cells log rounds k → k < length words
    → {cells' : List ℤ} {log' : List ℕ} → length cells' ≡ length cells → length log' ≡ length log
    → (x : ℕ) → Saved words k cells log x cells' log' → Marking words cells₀ log₀ cells' log' (max rounds x) (k + 1)
unfolding undone
one_more {words} {cells₀} {log₀} {cells} {log} {rounds} {k} t h {cells'} {log'} same_cells same_log x s =
    record {
      within = omega arith;
      deepening = next t.deepening h x s.deepens;
      count = same_cells ∙ t.count;
      long = same_log ∙ t.long;
      back =
          ap (λ (j : ℕ). undone words log' j cells') (add-one k)
          ∙ ap (undone words log' k) s.back
          ∙ undone_same words log log' k cells s.before
          ∙ t.back;
      beyond = s.beyond (length words) h ∙ t.beyond;
    }

pub all_marked : {words : List ℕ} {cells₀ : List ℤ} {log₀ : List ℕ} {cells : List ℤ} {log : List ℕ} {rounds k : ℕ}
    → Marking words cells₀ log₀ cells log rounds k → length words ≤ k
    → (rounds ≡ depth_of words)
    × (undone words log (length words) cells ≡ cells₀)
    × (drop (length words) log ≡ drop (length words) log₀)
all_marked {words} {cells₀} {log₀} {cells} {log} {rounds} {k} t h =
    let e : length words ≡ k = omega (arith, t.within) in
    (done t.deepening h, ap (λ (j : ℕ). undone words log j cells) e ∙ t.back, t.beyond)
