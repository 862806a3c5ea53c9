-- `listings::put_yards` meets its contract: before vertex v, the lines of those before it are written. Rests on Repeated.
use Prim.Native.Nat.{◌*◌}
use Rattle.text.specs.Appended.{Appended}
use Rattle.plans.specs.Blocks.{flat}
use Rattle.listings.specs.Rows.{yard_at}
use Rattle.listings.proofs.put_yards.Given as goal

abbrev pub invariant-loop-v : goal.invariant-loop-v
invariant-loop-v l = Appended (65 * l.v) (flat l.v (yard_at l.all l.distances l.parents)) l.initial.text l.text
