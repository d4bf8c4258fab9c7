-- What a free start is, and what a call gives.
pub mod Starts
-- The greatest common divisor.
pub mod Divisor
-- The distance of two starts.
pub mod Collisions
-- Exclusive or.
pub mod Parity
-- How many starts are enough.
pub mod Enough
-- Tests that say whether a statement holds.
pub mod Decided
-- The least number without a property.
pub mod Least
-- What it is that each answer comes exactly where it should.
pub mod Theorems
-- The answer computed.
pub mod Computed
-- The program's table, in numbers.
pub mod Table
-- Worked examples.
pub mod Examples
