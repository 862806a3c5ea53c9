pub mod Runner
pub mod PlanWithin
pub mod Facts
