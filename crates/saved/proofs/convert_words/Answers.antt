-- `saved::convert_words` meets its contract: before a word, the words before it are converted, and the rest is still to be. Rests on Buffer.
use mathlib.Core.Path.{ap, ◌∙◌}
use native.Mathlib.Omega.{arith}
use Rattle.machine.proofs.Tested.{kept}
use Rattle.saved.specs.Saved.{convertible, converted}
use Rattle.saved.proofs.Buffer.{begin, good, onward, ended}
use Rattle.saved.proofs.convert_words.Goals as goal

pub loop-word-init : goal.loop-word-init
loop-word-init c = begin _ c.requires

pub convert_word-requires : goal.convert_word-requires
convert_word-requires c =
    let l = c.loop-word in ap convertible (kept _ c.convert_word-arg-1.given) ∙ good _ _ _ l.invariant (omega (arith, l.invariant.long))

pub loop-word-preserved : goal.loop-word-preserved
loop-word-preserved c =
    let l = c.loop-word in
    onward _ _ _ l.invariant (omega (arith, l.invariant.long)) _
    (kept _ c.convert_word.type_inv ∙ c.convert_word.ensures ∙ ap converted (kept _ c.convert_word-arg-1.given))

pub returns : goal.returns
returns c = ended _ _ _ c.loop-word.invariant (omega (arith, c.loop-word.invariant.long))
