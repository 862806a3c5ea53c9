-- `listings::put_pairs` meets its contract: before vertex `to`, the pairs of those before it are written. Rests on Repeated.
use borrow.Author.Rules.{rules}
use lib.IntN.{pos}
use lib.ListN.{get_or}
use mir.Syntax.{w64}
use mir.Val.{SFits}
use mir.Facts.{to_z-of_z}
use Prim.Native.Nat.{◌+◌, ◌*◌}
use Rattle.listings.specs.Rows.{pair_at}
use Rattle.listings.proofs.Repeated.{start, again}
use Rattle.listings.proofs.put_pairs.Goals as goal

pub loop-to-init : goal.loop-to-init
loop-to-init c = start 65 _ _

pub loop-to-preserved : goal.loop-to-preserved
loop-to-preserved c =
    let s = c.args in
    let d : SFits w64 (get_or s.distances.now (s.from * s.n + c.loop-to.to) (pos 0)) = search rules in
    again 65 (pair_at s.all s.n s.distances.now s.from) c.loop-to.invariant (rw (to_z-of_z d) at c.put_pair.ensures)
