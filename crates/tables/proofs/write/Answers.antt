-- `tables::write` meets its contract: the rows of its lines, then their words. Rests on Passed.
use Rattle.tables.proofs.Passed.{lines_ready, lines_put}
use Rattle.tables.proofs.write.Goals as goal

pub words-requires : goal.words-requires
words-requires c = lines_ready _ _ _ _ _ c.assemble.ensures.1 c.requires.1

pub returns : goal.returns
returns c = lines_put _ _ _ _ _ c.assemble.ensures.1 c.words.ensures
