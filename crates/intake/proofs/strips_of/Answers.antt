-- `intake::strips_of` meets its contract, method by method. Rests on the definitions alone.
use Rattle.intake.specs.Intake.{strips_of}
use Rattle.intake.proofs.strips_of.Goals as goal

pub returns-in-BellmanFord : goal.returns-in-BellmanFord
unfolding strips_of
returns-in-BellmanFord c = rw (← c.in-BellmanFord.ensures, c.edge_strips.ensures, c.new-empty.ensures)

pub returns-in-Dijkstra : goal.returns-in-Dijkstra
unfolding strips_of
returns-in-Dijkstra c = rw (← c.in-Dijkstra.ensures, c.new-empty.ensures, c.new.ensures)

pub returns-in-Jacobi : goal.returns-in-Jacobi
unfolding strips_of
returns-in-Jacobi c = rw (← c.in-Jacobi.ensures, c.edge_strips-in-Jacobi.ensures, c.new-empty.ensures)

pub returns-in-FloydWarshall : goal.returns-in-FloydWarshall
unfolding strips_of
returns-in-FloydWarshall c = rw (← c.in-FloydWarshall.ensures, c.edge_strips-in-FloydWarshall.ensures, c.new-empty.ensures)

pub returns-in-Routed : goal.returns-in-Routed
unfolding strips_of
returns-in-Routed c = rw (← c.in-Routed.ensures, c.edge_strips-in-Routed.ensures, c.new-in-Routed.ensures)
