-- `planner::method1::write` meets its contract: what it shares with method 5, and the verdict opened. Rests on Tables.
use native.Mathlib.Omega.{arith}
use Rattle.plans.specs.Outline.{instructions}
use Rattle.plans.specs.Method1 as Method1
use Rattle.tables.proofs.Written.{one}
use Rattle.planner.specs.Written.{solve_words}
use Rattle.planner.proofs.Tables.{outlined1, first_room, rest_room, all_written}
use Rattle.planner.proofs.method1.write.Goals as goal

pub write_solve-next-requires : goal.write_solve-next-requires
unfolding solve_words
write_solve-next-requires c =
    first_room Method1.solve _ (outlined1 _ c.args.h.within_limits c.requires.0) c.args.h.within_limits _ c.requires.1

-- Room for one word more.
pub bounds-plan-next : goal.bounds-plan-next
unfolding solve_words instructions
bounds-plan-next c =
    let room = rest_room Method1.solve _ (outlined1 _ c.args.h.within_limits c.requires.0) c.args.h.within_limits _ c.requires.1 c.write_solve-next.ensures in
    omega (arith, room.fits)

pub offset_bounds-plan-next : goal.offset_bounds-plan-next
offset_bounds-plan-next c = omega (arith, bounds-plan-next c)

pub overflow_add-result : goal.overflow_add-result
overflow_add-result c = omega (arith, bounds-plan-next c)

pub returns : goal.returns
unfolding solve_words instructions
returns c =
    all_written Method1.solve _ (outlined1 _ c.args.h.within_limits c.requires.0) c.args.h.within_limits _ c.requires.1 c.write_solve-next.ensures
    (rw (c.pack.ensures, c.code.ensures) (one _ _ _))
