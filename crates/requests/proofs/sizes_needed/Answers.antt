-- `requests::sizes_needed` meets its contract: a law for each way out. Rests on Enough, and on answers for what `?` hands on.
use mathlib.Core.Path.{ap, ◌∙◌}
use native.Mathlib.Omega.{arith}
use Rattle.answers.proofs.Found.{the_same}
use Rattle.limits.proofs.Enough.{no_header, header_refused, header_asks}
use Rattle.requests.specs.Sizes.{told_by_sizes}
use Rattle.requests.proofs.sizes_needed.Goals as goal

pub returns-in_default : goal.returns-in_default
returns-in_default c = no_header _ (omega arith)

pub returns-in_err-h : goal.returns-in_err-h
returns-in_err-h c =
    ap told_by_sizes (the_same _ _ c.from_residual.ensures.1)
    ∙ header_refused _ (λ e. omega arith) _ c.read_header.ensures _ c.in_err-h.ensures.0

pub lengths_of-requires : goal.lengths_of-requires
lengths_of-requires c = c.figures_of-f.ensures

pub returns : goal.returns
returns c =
    let (fine, is) = c.in_ok-h.ensures in
    header_asks _ (λ e. omega arith) _ (is ∙ c.read_header.ensures) (rw is fine) _ c.lengths_of.ensures
