-- What the functions that write results have for one vertex: its line, where it is listed.
-- Rests on printing's Texts.
use Rattle.std.specs.Prelude.{Bool, List, ℕ, ◌+◌, ◌*◌, ℤ, pos, get_or}
use Rattle.plans.specs.Blocks.{flat}
use Rattle.printing.specs.Texts.{yard_text, pair_text, listed_text}

abbrev pub yard_at : (all : Bool) (distances parents : List ℤ) (v : ℕ) → List ℕ
yard_at all ds ps v = let d = get_or ds v (pos 0) in listed_text all d (yard_text v d (get_or ps v (pos 0)))

-- Of a pair in a table of n rows.
abbrev pub pair_at : (all : Bool) (n : ℕ) (distances : List ℤ) (from to : ℕ) → List ℕ
pair_at all n ds from to = let d = get_or ds (from * n + to) (pos 0) in listed_text all d (pair_text from to d)

-- A row of that table.
abbrev pub pairs_text : (all : Bool) (n : ℕ) (distances : List ℤ) (from : ℕ) → List ℕ
pairs_text all n ds from = flat n (pair_at all n ds from)
