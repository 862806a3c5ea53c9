-- `planner::method4::write` meets its contract: its lines have the rows of the method's outline. Rests on Lines and Tables.
use native.Mathlib.Omega.{arith}
use Rattle.planner.proofs.Lines.{lines4}
use Rattle.planner.proofs.Tables.{outlined4, may_write, was_written}
use Rattle.planner.proofs.method4.write.Goals as goal

pub write_lines-requires : goal.write_lines-requires
write_lines-requires c = (omega arith, (omega arith, may_write (outlined4 _ c.args.h.within_limits c.requires.0) c.args.h.within_limits _ (lines4 _ _) _ c.requires.1))

pub returns : goal.returns
returns c = was_written (outlined4 _ c.args.h.within_limits c.requires.0) c.args.h.within_limits _ (lines4 _ _) c.write_lines.ensures
