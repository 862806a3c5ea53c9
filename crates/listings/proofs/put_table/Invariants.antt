-- `listings::put_table` meets its contract: before source `from`, the rows of those before it are written. Rests on Repeated and Methods.
use Prim.Native.Nat.{◌*◌}
use Rattle.text.specs.Appended.{Appended}
use Rattle.plans.specs.Blocks.{flat}
use Rattle.listings.specs.Rows.{pairs_text}
use Rattle.listings.proofs.put_table.Given as goal

abbrev pub invariant-loop-from : goal.invariant-loop-from
invariant-loop-from l = Appended (65 * 32 * l.from) (flat l.from (pairs_text l.all l.n l.distances)) l.initial.text l.text
