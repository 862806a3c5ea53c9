-- `listings::put_words` meets its contract: before word k, the lines of those before it are written. Rests on Repeated and text's Written.
use Prim.Native.Nat.{◌*◌}
use Rattle.text.specs.Appended.{Appended}
use Rattle.printing.specs.Texts.{words_text}
use Rattle.listings.proofs.put_words.Given as goal

abbrev pub invariant-loop-word : goal.invariant-loop-word
invariant-loop-word l = Appended (17 * l.word-index) (words_text l.word-index l.words) l.initial.text l.text
