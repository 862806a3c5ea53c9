-- `listings::put_words` meets its contract: before word k, the lines of those before it are written. Rests on Repeated and text's Written.
use mathlib.Core.List.{[], ◌∷◌}
use mathlib.Core.Path.{subst}
use Prim.Native.Nat.{ℕ, ◌<◌}
use native.Mathlib.Omega.{arith}
use lib.ListN.{get_or}
use lib.Seq.{length-take-le, get_or-take}
use Rattle.text.specs.Text.{hexadecimal, line_of}
use Rattle.text.specs.Appended.{Appended}
use Rattle.text.proofs.Written.{then}
use Rattle.listings.proofs.Repeated.{start, again}
use Rattle.listings.proofs.put_words.Goals as goal

pub loop-word-init : goal.loop-word-init
loop-word-init c = start 17 _ _

pub loop-word-preserved : goal.loop-word-preserved
unfolding line_of
loop-word-preserved c =
    let words = c.args.words.now in
    let k = c.loop-word.word-index in
    let below : k < c.args.count = omega (arith, length-take-le c.args.count words c.requires.1) in
    again 17 (λ k. line_of (hexadecimal (get_or words k 0) ∷ [])) c.loop-word.invariant
    (subst (λ (x : ℕ). Appended 17 (line_of (hexadecimal x ∷ [])) c.loop-word.text c.put_byte.new.self)
    (get_or-take c.args.count words k 0 below) (then c.put_hex.ensures c.put_byte.ensures))
