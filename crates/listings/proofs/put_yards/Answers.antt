-- `listings::put_yards` meets its contract: before vertex v, the lines of those before it are written. Rests on Repeated.
use borrow.Author.Rules.{rules}
use lib.IntN.{pos}
use lib.ListN.{get_or}
use mir.Syntax.{w64}
use mir.Val.{SFits}
use mir.Facts.{to_z-of_z}
use Rattle.listings.specs.Rows.{yard_at}
use Rattle.listings.proofs.Repeated.{start, again}
use Rattle.listings.proofs.put_yards.Goals as goal

pub loop-v-init : goal.loop-v-init
loop-v-init c = start 65 _ _

pub loop-v-preserved : goal.loop-v-preserved
loop-v-preserved c =
    let s = c.args in
    let d : SFits w64 (get_or s.distances.now c.loop-v.v (pos 0)) = search rules in
    let p : SFits w64 (get_or s.parents.now c.loop-v.v (pos 0)) = search rules in
    again 65 (yard_at s.all s.distances.now s.parents.now) c.loop-v.invariant (rw (to_z-of_z d, to_z-of_z p) at c.put_yard.ensures)
