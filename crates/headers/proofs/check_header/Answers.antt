-- `headers::check_header` meets its contract: a law for each way out. Rests on Headers, and on answers for what `?` hands on.
use mathlib.Core.Path.{refl, ap, ◌∙◌}
use mathlib.Core.Option.{some}
use native.Mathlib.Omega.{arith}
use Rattle.answers.specs.Refusal.{rule_of}
use Rattle.answers.proofs.Found.{the_same, handed_on}
use Rattle.headers.proofs.Headers.{method_unknown, vertices_wrong, edges_many, source_high, none_met}
use Rattle.headers.proofs.check_header.Goals as goal

pub returns-in_err-method : goal.returns-in_err-method
returns-in_err-method c =
    let (unknown, is) = c.in_err-method.ensures in
    let handed = c.from_residual.ensures.1 in
    (handed_on _ _ handed _ (ap (λ r. some (rule_of r)) is ∙ method_unknown _ unknown), rw (the_same _ _ handed) tt)

pub returns-then-h-lt1 : goal.returns-then-h-lt1
returns-then-h-lt1 c = (vertices_wrong c.args.h _ c.in_ok-method.ensures c.then-h-lt1.either, tt)

pub returns-then-most_edges-h : goal.returns-then-most_edges-h
returns-then-most_edges-h c =
    (edges_many c.args.h _ c.in_ok-method.ensures (omega arith) (omega arith) _ c.most_edges.ensures c.if-most_edges-h.true, tt)

pub returns-then-source_count-h : goal.returns-then-source_count-h
returns-then-source_count-h c = (
  source_high c.args.h _ c.in_ok-method.ensures (omega arith) (omega arith) _ c.most_edges.ensures c.if-most_edges-h.false _
      c.source_count.ensures c.if-source_count-h.true,
  tt,
)

pub returns : goal.returns
returns c = (
  none_met c.args.h _ c.in_ok-method.ensures (omega arith) (omega arith) _ c.most_edges.ensures c.if-most_edges-h.false _
      c.source_count.ensures c.if-source_count-h.false,
  refl,
)
