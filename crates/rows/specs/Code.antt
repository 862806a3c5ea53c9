-- A plan's line in code: a word of an op (4 bits) and three operands (20 each), like an operation word; and its row.
-- An operand: bits 0 to 4 an offset; 5, 6, 7 and 8, 9, 10 whether the outer, the middle and the inner counter are added once, and n times;
-- 11 to 15 an index into env. Rests on rows.
use Rattle.std.specs.Prelude.{cond, List, [], ◌∷◌, ℕ, ◌+◌, ◌-◌, ◌^◌, eqb, ltb, nat_abs, get_or}
use Rattle.fields.specs.Fields.{field_of}
use Rattle.machine.specs.Word.{op_field, b_field, packed, packed_set}
use Rattle.plans.specs.Limits.{far}
use Rattle.plans.specs.Outline.{Level, outer, middle, inner}
use Rattle.rows.specs.declared.Moving.{Moving}
use Rattle.rows.specs.declared.Over.{Over}
use Rattle.rows.specs.declared.Level.TheVariants.{Outer, Middle, Inner}
use Rattle.rows.specs.declared.Over.TheVariants.{Counter, Nothing, Run}
use Rattle.rows.specs.declared.Row.{Row}
use Rattle.rows.specs.declared.Row.TheVariants.{Word, Loop}
use Rattle.rows.specs.Rows.{word_row}

-- ---- the operand at a shift (d 40, a 20, b 0)

unfoldable pub place_of : (env : List ℕ) (shift code : ℕ) → ℕ
place_of env s code = get_or env (field_of (11 + s) 5 code) 0 + field_of s 5 code

-- What a step of the counter of a level adds.
unfoldable pub step_of : (n level shift code : ℕ) → ℕ
step_of n l s code = field_of (5 + l + s) 1 code + get_or (0 ∷ n ∷ []) (field_of (8 + l + s) 1 code) 0

-- One bit of each operand.
unfoldable pub flags_of : (bit code : ℕ) → ℕ
flags_of i code = packed 0 (field_of (i + 40) 1 code) (field_of (i + 20) 1 code) (field_of (i + 0) 1 code)

-- ---- SET's number: operand a's offset and counters, or FAR, -1, or 0 where the inner counter is the source, else FAR; by b

unfoldable pub set_number : (code : ℕ) → ℕ
set_number code = get_or (field_of 20 5 code ∷ nat_abs far ∷ (2 ^ 40 - 1) ∷ []) (b_field code) 0

unfoldable pub set_other : (code : ℕ) → ℕ
set_other code = get_or (0 ∷ 0 ∷ 0 ∷ nat_abs far ∷ []) (b_field code) 0

-- ---- rows

abbrev pub level_number : Level → ℕ
level_number outer = 0
level_number middle = 1
level_number inner = 2

unfoldable pub set_step : (n code level : ℕ) → ℕ
set_step n code l = packed_set (step_of n l 40 code) (field_of (25 + l) 1 code)

unfoldable pub word_step : (n code level : ℕ) → ℕ
word_step n code l = packed 0 (step_of n l 40 code) (step_of n l 20 code) (step_of n l 0 code)

-- What a loop counts, by its op: 8, 9 and 10 a counter, 12 is a run, 11 and all others count nothing.
abbrev pub over_of : (op : ℕ) → Over
over_of op = cond (eqb op 8) (Counter Outer) (cond (eqb op 9) (Counter Middle) (cond (eqb op 10) (Counter Inner) (cond (eqb op 12) Run Nothing)))

module _ (n : ℕ) (env : List ℕ) (code : ℕ) where
  abbrev pub set_row : Moving
  set_row =
      word_row (packed_set (place_of env 40 code) (set_number code)) (λ l. set_step n code (level_number l)) (set_other code)

  abbrev pub instruction_row : (op : ℕ) → Moving
  instruction_row op =
      word_row (packed op (place_of env 40 code) (place_of env 20 code) (place_of env 0 code))
      (λ l. word_step n code (level_number l)) 0

  -- SET, another instruction, or a loop.
  unfoldable pub row_of_code : Row
  row_of_code =
      cond (eqb (op_field code) 0) (Word set_row)
      (cond (ltb (op_field code) 8) (Word (instruction_row (op_field code)))
      (Loop (over_of (op_field code)) (place_of env 20 code) (b_field code)))
