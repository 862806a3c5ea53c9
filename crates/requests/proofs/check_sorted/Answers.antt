-- `requests::check_sorted` meets its contract: a law for each way out. Rests on Words, and on answers for what `?` hands on.
use Rattle.answers.proofs.Found.{handed_on}
use Rattle.limits.proofs.Words.{edge_bad, out_of_order, in_place}
use Rattle.requests.proofs.check_sorted.Goals as goal

pub returns-in_err-check_edge : goal.returns-in_err-check_edge
returns-in_err-check_edge c =
    handed_on _ _ c.from_residual.ensures.1 _ (edge_bad _ _ _ _ _ c.check_edge.ensures _ c.in_err-check_edge.was)

pub returns-then-field : goal.returns-then-field
returns-then-field c =
    out_of_order _ _ _ _ _ c.check_edge.ensures c.in_ok-check_edge.was _ _ c.field.ensures.0 c.field-2.ensures.0 c.if-field.true

pub returns : goal.returns
returns c =
    in_place _ _ _ _ _ c.check_edge.ensures c.in_ok-check_edge.was _ _ c.field.ensures.0 c.field-2.ensures.0 c.if-field.false
