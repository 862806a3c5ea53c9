-- `listings::put_pairs` meets its contract: before vertex `to`, the pairs of those before it are written. Rests on Repeated.
use Prim.Native.Nat.{◌*◌}
use Rattle.text.specs.Appended.{Appended}
use Rattle.plans.specs.Blocks.{flat}
use Rattle.listings.specs.Rows.{pair_at}
use Rattle.listings.proofs.put_pairs.Given as goal

abbrev pub invariant-loop-to : goal.invariant-loop-to
invariant-loop-to l = Appended (65 * l.to) (flat l.to (pair_at l.all l.n l.distances l.from)) l.initial.text l.text
