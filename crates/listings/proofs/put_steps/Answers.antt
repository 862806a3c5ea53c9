-- `listings::put_steps` meets its contract: before place k, those before it are written. Rests on Repeated.
use borrow.Author.Rules.{rules}
use lib.IntN.{pos}
use lib.ListN.{get_or, take}
use mir.Syntax.{w64}
use mir.Val.{SFits}
use mir.Facts.{to_z-of_z}
use Prim.Native.Nat.{◌<◌}
use native.Mathlib.Omega.{arith}
use lib.Seq.{length-take-le, get_or-take}
use Rattle.printing.specs.Texts.{step_text}
use Rattle.listings.proofs.Repeated.{start, again}
use Rattle.listings.proofs.put_steps.Goals as goal

pub loop-edge-init : goal.loop-edge-init
loop-edge-init c = start 22 _ _

pub loop-edge-preserved : goal.loop-edge-preserved
loop-edge-preserved c =
    let route = c.args.route.now in
    let k = c.loop-edge.edge-index in
    let edge : SFits w64 (get_or (take c.args.count route) k (pos 0)) = search rules in
    let below : k < c.args.count = omega (arith, length-take-le c.args.count route c.requires.1) in
    again 22 (λ k. step_text (get_or route k (pos 0))) c.loop-edge.invariant (rw (to_z-of_z edge, get_or-take c.args.count route k (pos 0) below) at c.put_step.ensures)
