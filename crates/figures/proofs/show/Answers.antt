-- `figures::show` is safe: what a run answers fits its buffer. Rests on replies' Answered.
use borrow.Author.Rules.{rules}
use Rattle.replies.proofs.Answered.{run_accepted}
use Rattle.figures.proofs.show.Goals as goal

pub put_run-requires : goal.put_run-requires
put_run-requires g c = (
  search rules,
  λ z. run_accepted _ _ _ _ _ _ _ _ c.run-answer.ensures _ c.read_header-h.ensures z,
)
