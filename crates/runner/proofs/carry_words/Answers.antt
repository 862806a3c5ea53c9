-- `runner::carry_words` meets its contract: before each word, what is left of the words is still to carry out. Rests on Turn and Worked.
use native.Mathlib.Omega.{arith}
use mathlib.Core.List.{[]}
use Rattle.runner.proofs.Turn.{begin, can, further, finished, no_words}
use Rattle.runner.proofs.Worked.{tail_word, tail_long}
use Rattle.runner.proofs.carry_words.Goals as goal

pub loop-word-init : goal.loop-word-init
loop-word-init c = begin _ _ c.requires

pub step-requires : goal.step-requires
step-requires c =
    let l = tail_long c.args.words.now c.in-len1-up.len_at_least in
    can c.loop-word.invariant (omega arith) _ (tail_word c.args.words.now _)

pub loop-word-preserved : goal.loop-word-preserved
loop-word-preserved c =
    let l = tail_long c.args.words.now c.in-len1-up.len_at_least in
    further c.loop-word.invariant (omega arith) _ (tail_word c.args.words.now _) _ c.step.ensures

pub returns-in_default : goal.returns-in_default
returns-in_default c = (no_words c.args.words.now c.args.cells.now [] (omega arith)).cells_left_are

pub returns-after-loop-word : goal.returns-after-loop-word
returns-after-loop-word c =
    let l = tail_long c.args.words.now c.in-len1-up.len_at_least in finished c.loop-word.invariant (omega arith)
