-- `engine::copy_out` meets its contract: before place i, the cells before it are copied. Rests on intake's Copied and lists' Filled.
use borrow.Author.Rules.{rules}
use mathlib.Core.Path.{◌≡◌, refl, ap, ◌∙◌}
use mathlib.Core.List.{◌++◌}
use Prim.Native.Nat.{ℕ, ◌+◌}
use native.Mathlib.Nat.{zero-add}
use native.Mathlib.Omega.{arith}
use lib.ListN.{drop}
use Rattle.machine.specs.Effect.{cell_at}
use Rattle.plans.specs.Blocks.{flat}
use Rattle.plans.proofs.Blocks.{ones_length}
use Rattle.lists.proofs.Filled.{from_start}
use Rattle.intake.specs.Intake.{copied}
use Rattle.intake.proofs.Copied.{ones, one_set}
use Rattle.engine.proofs.copy_out.Goals as goal

pub loop-i-init : goal.loop-i-init
unfolding flat
loop-i-init c = (refl, refl)

pub loop-i-preserved : goal.loop-i-preserved
loop-i-preserved c =
    let i = c.loop-i.invariant in
    (search rules, rw (zero-add c.loop-i.i) at (one_set _ _ 0 _ _ _ c.number-1.given refl i.1))

pub returns : goal.returns
unfolding copied
returns c =
    let s = c.args.span in
    let f = λ (j : ℕ). cell_at c.args.cells.now (s.first + j) in
    let long = ones_length f s.count in
    let all : c.loop-i.i ≡ s.count = omega arith in
    (rw all at c.loop-i.invariant.1)
    ∙ from_start (ones s.count f) c.args.out.now (omega (arith, long, c.requires.1))
    ∙ ap (λ (j : ℕ). ones s.count f ++ drop j c.args.out.now) long
