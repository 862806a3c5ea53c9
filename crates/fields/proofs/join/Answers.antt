-- `fields::join` meets its contract: the shift loses nothing and the parts do not meet. Rests on the toolchain's library alone.
use native.Mathlib.Nat.{mod-eq_of_lt}
use lib.Bits.{or_shifted}
use Rattle.fields.proofs.join.Goals as goal

pub returns : goal.returns
returns c = rw (mod-eq_of_lt c.requires.2) (or_shifted _ c.args.width _ c.requires.1)
