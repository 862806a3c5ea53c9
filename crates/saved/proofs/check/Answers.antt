-- `saved::check` meets its contract: before a place, what is left meets the refusal that all of them meet. Rests on Buffer.
use Rattle.saved.proofs.Buffer.{start, refused, again, done}
use Rattle.saved.proofs.check.Goals as goal

pub loop-place-init : goal.loop-place-init
loop-place-init c = start _

pub returns-then-bad : goal.returns-then-bad
returns-then-bad c = search refused

pub loop-place-preserved : goal.loop-place-preserved
loop-place-preserved c = search again

pub returns : goal.returns
returns c = search done
