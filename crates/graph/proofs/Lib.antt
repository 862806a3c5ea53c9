-- The theorems on Bellman-Ford, in place and by Jacobi passes, on Dijkstra, on Floyd-Warshall, on routes, on other weights and on least
-- weights, and what they rest on, in order.
-- Rests on the definitions.
pub mod Int
pub mod Pigeon
pub mod Walk
pub mod Certificate
pub mod Parents
pub mod Relax
pub mod Passes
pub mod BellmanFord
pub mod Jacobi
pub mod Synchronous
pub mod Sweep
pub mod Dijkstra
pub mod SameEdges
pub mod Distances
pub mod Floyd
pub mod Marks
pub mod Route
pub mod Product
pub mod Reweighed
pub mod LeastBetween
pub mod Tight
pub mod Facts
