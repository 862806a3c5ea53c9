-- `tables::write_lines` meets its contract: its table is as long as the lines. Rests on nothing else.
use native.Mathlib.Omega.{arith}
use Rattle.tables.proofs.write_lines.Goals as goal

pub write-requires : goal.write-requires
write-requires g c = (omega arith, c.requires.1)
