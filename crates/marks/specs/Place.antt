-- The cells' depths in the cells themselves, whose numbers wait in the log. A written cell holds its depth above the 24 bits of its last writer's
-- number, and that this word does write the cell tells it from one that was not written. Rests on the machine's words.
use Rattle.std.specs.Prelude.{◌≡◌, Bool, not, ◌&&◌, cond, List, ℕ, zero, suc, ◌+◌, ◌<◌, ltb, eqb, ℤ, get_or, drop, set}
use Rattle.fields.specs.Fields.{field_of, signed_of, bits_of}
use Rattle.machine.specs.Effect.{cell_at}
use Rattle.machine.specs.Word.{d_field}
use Rattle.machine.specs.Log.{opens}
use Rattle.deepening.specs.Word.{Deepens}

-- Whether a word writes cell a.
abbrev pub writes_to : (word a : ℕ) → Bool
writes_to w a = not (opens w) && eqb (d_field w) a

-- Before word k: whether what a cell holds is a mark that an earlier word has left there, and the depth in it, else 0.
unfoldable pub mark_depth : (words : List ℕ) (k mark a : ℕ) → ℕ
mark_depth words k mark a =
    cond (ltb (field_of 0 24 mark) k && writes_to (get_or words (field_of 0 24 mark) 0) a) (field_of 24 40 mark) 0

abbrev pub depths_at : (words : List ℕ) (cells : List ℤ) (k : ℕ) → ℕ → ℕ
depths_at words cells k a = mark_depth words k (bits_of 64 (cell_at cells a)) a

-- A word's cell as it was before: `saved` in it. And the cells before the first k words, each of which saved its cell in the log.
unfoldable pub put_back : (word saved : ℕ) → List ℤ → List ℤ
put_back w saved cells = cond (opens w) cells (set cells (d_field w) (signed_of 64 saved))

unfoldable pub undone : (words log : List ℕ) (k : ℕ) → List ℤ → List ℤ
undone words log zero cells = cells
undone words log (suc k) cells = undone words log k (put_back (get_or words k 0) (get_or log k 0) cells)

-- x is word k's depth, and its mark leaves the depths after it, its cell to be put back from the log, and the log but for place k.
pub record Saved (words : List ℕ) (k : ℕ) (cells : List ℤ) (log : List ℕ) (x : ℕ) (cells' : List ℤ) (log' : List ℕ) : Type 0 where
  pub deepens : Deepens (get_or words k 0) (depths_at words cells k) x (depths_at words cells' (k + 1))
  pub back : put_back (get_or words k 0) (get_or log' k 0) cells' ≡ cells
  pub before : (j : ℕ) → j < k → get_or log' j 0 ≡ get_or log j 0
  pub beyond : (n : ℕ) → k < n → drop n log' ≡ drop n log
