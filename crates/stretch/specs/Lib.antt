-- What the busiest stretch is, and what a call gives.
pub mod Busiest
-- Worked examples.
pub mod Examples
