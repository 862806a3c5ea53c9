-- `replies::put_results` meets its contract. Rests on text's Written.
use native.Mathlib.Omega.{arith}
use Rattle.text.proofs.Written.{then, wider}
use Rattle.replies.proofs.put_results.Goals as goal

pub returns : goal.returns
returns c = wider (then c.put_numbers.ensures (then c.put_rows.ensures c.put_route.ensures)) _ (omega arith)
