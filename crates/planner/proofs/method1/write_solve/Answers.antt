-- `planner::method1::write_solve` meets its contract: its lines have the rows of the method's outline but for its last line. Rests on Lines and Tables.
use native.Mathlib.Omega.{arith}
use Rattle.planner.proofs.Lines.{solve_lines}
use Rattle.planner.proofs.Tables.{may_solve, was_solved}
use Rattle.planner.proofs.method1.write_solve.Goals as goal

pub write_lines-requires : goal.write_lines-requires
write_lines-requires c = (omega arith, (omega arith, may_solve _ c.args.h.within_limits _ (solve_lines _ _) c.requires))

pub returns : goal.returns
returns c = was_solved _ c.args.h.within_limits _ (solve_lines _ _) c.write_lines.ensures
