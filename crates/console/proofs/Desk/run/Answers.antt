-- `Desk::run` meets its contract. Rests on Whole and printing's Handed.
use mathlib.Core.Path.{sym, ap, ◌∙◌}
use mathlib.Core.List.{List}
use Prim.Native.Nat.{ℕ}
use lib.ListN.{get_or}
use lib.Seq.{length-take-le}
use Rattle.plans.specs.Plan.{header_of}
use Rattle.printing.specs.Bytes.{request_of}
use Rattle.printing.proofs.Handed.{first_word}
use Rattle.console.proofs.Whole.{inside}
use Rattle.console.proofs.Desk.run.Goals as goal

pub slice_bounds-words-end : goal.slice_bounds-words-end
slice_bounds-words-end c = rw (c.handed_over-count.ensures, c.to_words.ensures) (inside c.args.bytes.now)

pub slice_bounds-run-end : goal.slice_bounds-run-end
slice_bounds-run-end c = sym (length-take-le _ _ (rw (c.handed_over-count.ensures, c.to_words.ensures) (inside c.args.bytes.now)))

pub returns : goal.returns
unfolding request_of
returns c =
    let first = ap (λ (ws : List ℕ). get_or ws 0 0) c.to_words.ensures ∙ first_word c.args.bytes.now in
    (c.read_header-header.ensures ∙ ap header_of first, rw (c.handed_over-count.ensures, c.to_words.ensures) at c.run-answer.ensures)
