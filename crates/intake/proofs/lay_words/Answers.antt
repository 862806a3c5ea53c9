-- `intake::lay_words` meets its contract: before a strip, those from it on are still to lay. Rests on Laid.
use borrow.Author.Rules.{rules}
use Rattle.intake.proofs.Laid.{begin, start, fits_now, again, all_laid}
use Rattle.intake.proofs.lay_words.Goals as goal

pub loop-strip-init : goal.loop-strip-init
loop-strip-init c = start _ _ _

pub lay_strip-requires : goal.lay_strip-requires
lay_strip-requires c =
    let begun = begin c.args.h.within_limits c.requires _ c.figures_of-f.ensures.cells_are c.clear.ensures c.strips_of-strips.ensures (search rules) in
    fits_now begun c.loop-strip.invariant

pub loop-strip-preserved : goal.loop-strip-preserved
loop-strip-preserved c =
    let begun = begin c.args.h.within_limits c.requires _ c.figures_of-f.ensures.cells_are c.clear.ensures c.strips_of-strips.ensures (search rules) in
    again begun c.loop-strip.invariant c.loop-strip-test.true _ c.lay_strip.ensures

pub returns : goal.returns
returns c =
    let begun = begin c.args.h.within_limits c.requires _ c.figures_of-f.ensures.cells_are c.clear.ensures c.strips_of-strips.ensures (search rules) in
    all_laid begun c.loop-strip.invariant c.loop-strip-test.false
