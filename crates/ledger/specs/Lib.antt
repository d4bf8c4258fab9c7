-- Document 01 as definitions, in reading order.
pub mod Lists
pub mod Config
pub mod Ledger
pub mod Time
pub mod Services
pub mod Refusals
pub mod Session
pub mod Lines
-- the request about turns: how often a timer has signalled
pub mod Turns
pub mod Seen
-- what an accepted frame says; messages dropped one by one
pub mod Good
pub mod Dropped
-- what they compute to, and how they are computed
pub mod Examples
pub mod Readings
pub mod TurnExamples
pub mod Shams
pub mod Computing
