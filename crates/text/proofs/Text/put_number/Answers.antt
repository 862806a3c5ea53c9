-- `Text::put_number` meets its contract: io's digits, copied, are the number's text. Rests on Digits.
use native.Mathlib.Omega.{arith}
use Rattle.text.proofs.Digits.{number}
use Rattle.text.proofs.Text.put_number.Goals as goal

pub returns : goal.returns
returns c =
    let d = c.decimal-count.ensures in
    number _ _ _ (omega arith) d.in_bounds.0 d.len d.digits c.put_bytes.ensures
