-- The definitions: walks, what distances and parents have to be, Bellman-Ford in place and by Jacobi passes, Dijkstra, Floyd-Warshall, routes,
-- other weights, least weights.
-- Rests on the toolchain's library alone.
pub mod Walk
pub mod Shortest
pub mod BellmanFord
pub mod Jacobi
pub mod Dijkstra
pub mod Floyd
pub mod Route
pub mod Reweighed
pub mod LeastBetween
pub mod Facts
