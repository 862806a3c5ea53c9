-- `saved::convert` meets its contract: a law for each way out. Rests on Buffer, and on answers for what `?` hands on.
use Rattle.answers.proofs.Found.{the_same}
use Rattle.saved.proofs.Buffer.{told, passed, made}
use Rattle.saved.proofs.convert.Goals as goal

pub returns-in_err-check : goal.returns-in_err-check
returns-in_err-check c = told _ _ c.check.ensures _ c.in_err-check.was _ (the_same _ _ c.from_residual.ensures.1)

pub convert_words-requires : goal.convert_words-requires
convert_words-requires c = passed _ _ c.check.ensures c.in_ok-check.was

pub returns : goal.returns
returns c = made _ _ c.check.ensures c.in_ok-check.was _ c.convert_words.ensures
