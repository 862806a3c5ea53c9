-- `requests::check_words` meets its contract, by a law for each way on and out. Rests on Words, and on answers for what `?` hands on.
use Rattle.answers.proofs.Found.{handed_on}
use Rattle.limits.proofs.Words.{refused, again, done}
use Rattle.requests.proofs.check_words.Goals as goal

pub returns-in_err-check_word : goal.returns-in_err-check_word
returns-in_err-check_word c =
    let l = c.loop-place in
    handed_on _ _ c.from_residual.ensures.1 _
    (refused _ _ _ _ l.invariant c.loop-place-test.true _ c.check_word.ensures _ c.in_err-check_word.was)

pub loop-place-preserved : goal.loop-place-preserved
loop-place-preserved c =
    let l = c.loop-place in
    again _ _ _ _ l.invariant c.loop-place-test.true _ c.check_word.ensures c.in_ok-check_word.was

pub returns : goal.returns
returns c = done _ _ _ _ c.loop-place.invariant c.loop-place-test.false
