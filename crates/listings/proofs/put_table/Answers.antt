-- `listings::put_table` meets its contract: before source `from`, the rows of those before it are written. Rests on Repeated and text's Written.
use Prim.Native.Nat.{◌*◌}
use native.Mathlib.Omega.{arith}
use Rattle.text.proofs.Written.{wider}
use Rattle.listings.specs.Rows.{pairs_text}
use Rattle.listings.proofs.Repeated.{start, again}
use Rattle.listings.proofs.put_table.Goals as goal

pub loop-from-init : goal.loop-from-init
loop-from-init c = start (65 * 32) _ _

pub loop-from-preserved : goal.loop-from-preserved
loop-from-preserved c =
    let s = c.args in
    again (65 * 32) (pairs_text s.all s.n s.distances.now) c.loop-from.invariant (wider c.put_pairs.ensures (65 * 32) (omega arith))
