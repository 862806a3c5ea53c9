-- `planner::fill` meets its contract: the header word, then the words of its method. Rests on Fills.
use Rattle.planner.proofs.Fills.{some_room, filled}
use Rattle.planner.proofs.fill.Goals as goal

pub bounds-plan-0 : goal.bounds-plan-0
bounds-plan-0 c = some_room _ c.args.h.within_limits c.args.plan.now c.requires

pub returns : goal.returns
returns c = filled _ c.args.h.within_limits c.args.plan.now c.requires c.pack.ensures c.write_words.ensures
