-- `planner::method2::write` meets its contract: its lines have the rows of the method's outline. Rests on Lines and Tables.
use native.Mathlib.Omega.{arith}
use Rattle.planner.proofs.Lines.{lines2}
use Rattle.planner.proofs.Tables.{outlined2, may_write, was_written}
use Rattle.planner.proofs.method2.write.Goals as goal

pub write_lines-requires : goal.write_lines-requires
write_lines-requires c = (omega arith, (omega arith, may_write (outlined2 _ c.args.h.within_limits c.requires.0) c.args.h.within_limits _ (lines2 _) _ c.requires.1))

pub returns : goal.returns
returns c = was_written (outlined2 _ c.args.h.within_limits c.requires.0) c.args.h.within_limits _ (lines2 _) c.write_lines.ensures
