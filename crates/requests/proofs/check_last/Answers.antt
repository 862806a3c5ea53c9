-- `requests::check_last` meets its contract: a law for each way out. Rests on Words, and on headers' Methods.
use mathlib.Core.Path.{sym}
use native.Mathlib.Omega.{arith}
use Rattle.headers.proofs.Methods.{another}
use Rattle.limits.proofs.Sizes.{words_five}
use Rattle.limits.proofs.Words.{destination_high, destination_there, no_destination}
use Rattle.requests.proofs.check_last.Goals as goal

pub returns-in_default : goal.returns-in_default
returns-in_default c =
    no_destination _ c.args.h.within_limits (another _ _ _ c.method_of.ensures c.in_default.not-Routed) _

pub bounds-words-h : goal.bounds-words-h
bounds-words-h c = omega (arith, words_five c.args.h.header (sym c.in-Routed.ensures), c.requires)

pub returns-then-h-words : goal.returns-then-h-words
returns-then-h-words c = destination_high _ _ (sym c.in-Routed.ensures) c.if-h-words.true

pub returns : goal.returns
returns c = destination_there _ _ (sym c.in-Routed.ensures) c.if-h-words.false
