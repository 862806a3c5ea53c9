-- `rows::assemble` meets its contract: the rows so far are those of as many lines. Rests on the definitions alone.
use Rattle.std.proofs.Common.{◌≡◌, map, take}
use Rattle.rows.specs.Code.{row_of_code}
use Rattle.rows.proofs.assemble.Given as goal

abbrev pub invariant-loop-k : goal.invariant-loop-k
invariant-loop-k l = take l.k l.table ≡ map (row_of_code l.fn.width l.fn.env) (take l.k l.lines)
