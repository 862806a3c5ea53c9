-- `headers::figures_of` meets its contract: a method's own. Rests on Figured.
use borrow.Author.Rules.{rules}
use Rattle.headers.proofs.Figured.{figured}
use Rattle.headers.proofs.figures_of.Goals as goal

pub returns-in-BellmanFord : goal.returns-in-BellmanFord
returns-in-BellmanFord c = search (rules, figured)

pub returns-in-Dijkstra : goal.returns-in-Dijkstra
returns-in-Dijkstra c = search (rules, figured)

pub returns-in-Jacobi : goal.returns-in-Jacobi
returns-in-Jacobi c = search (rules, figured)

pub returns-in-FloydWarshall : goal.returns-in-FloydWarshall
returns-in-FloydWarshall c = search (rules, figured)

pub returns-in-Routed : goal.returns-in-Routed
returns-in-Routed c = search (rules, figured)
