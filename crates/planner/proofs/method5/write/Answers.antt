-- `planner::method5::write` meets its contract: what it shares with method 1, and lines that have the rows of the rest of its outline.
-- Rests on Lines and Tables.
use native.Mathlib.Omega.{arith}
use Rattle.plans.specs.Outline.{instructions}
use Rattle.plans.specs.Method1 as Method1
use Rattle.plans.specs.Method5 as Method5
use Rattle.planner.specs.Written.{solve_words}
use Rattle.planner.proofs.Lines.{lines5}
use Rattle.planner.proofs.Tables.{outlined5, first_room, rest_may_write, rest_was_written}
use Rattle.planner.proofs.method5.write.Goals as goal

pub write_solve-next-requires : goal.write_solve-next-requires
unfolding solve_words instructions
write_solve-next-requires c =
    first_room Method1.solve Method5.show (outlined5 _ c.args.h.within_limits c.requires.0) c.args.h.within_limits _ c.requires.1

pub write_lines-requires : goal.write_lines-requires
unfolding solve_words instructions
write_lines-requires c = (
  omega arith,
  (
    omega arith,
    rest_may_write Method1.solve Method5.show (outlined5 _ c.args.h.within_limits c.requires.0) c.args.h.within_limits _ c.requires.1 c.write_solve-next.ensures _ (lines5 _ _),
  ),
)

pub returns : goal.returns
unfolding solve_words instructions
returns c =
    rest_was_written Method1.solve Method5.show (outlined5 _ c.args.h.within_limits c.requires.0) c.args.h.within_limits _ c.requires.1 c.write_solve-next.ensures _ (lines5 _ _)
    c.write_lines.ensures
