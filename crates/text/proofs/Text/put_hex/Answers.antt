-- `Text::put_hex` meets its contract: io's digits, copied, are the word's text. Rests on Digits.
use native.Mathlib.Omega.{arith}
use Rattle.text.proofs.Digits.{word}
use Rattle.text.proofs.Text.put_hex.Goals as goal

pub returns : goal.returns
returns c =
    let d = c.hex-count.ensures in
    word _ _ _ (omega arith) d.in_bounds.0 d.len d.digits c.put_bytes.ensures
