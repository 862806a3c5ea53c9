-- `requests::check_word` meets its contract: a law for each way out. Rests on Words, and on headers' Methods.
use mathlib.Core.Path.{sym}
use Rattle.headers.proofs.Methods.{another}
use Rattle.limits.proofs.Words.{an_entry, a_sorted_edge, an_edge}
use Rattle.requests.proofs.check_word.Goals as goal

pub returns-in-Dijkstra : goal.returns-in-Dijkstra
returns-in-Dijkstra c = an_entry _ _ _ _ _ (sym c.in-Dijkstra.ensures) c.check_entry.ensures

pub returns-in-Jacobi : goal.returns-in-Jacobi
returns-in-Jacobi c = a_sorted_edge _ _ _ _ _ (sym c.in-Jacobi.ensures) c.check_sorted.ensures

pub returns-in_default : goal.returns-in_default
returns-in_default c =
    let other = another c.method_of.result in
    an_edge _ _ _ _ _ c.args.h.within_limits (other _ _ c.method_of.ensures c.in_default.not-Dijkstra)
    (other _ _ c.method_of.ensures c.in_default.not-Jacobi) c.check_edge.ensures
