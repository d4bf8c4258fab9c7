-- The lent blocks, and what it is to do over them what the ledger does.
pub mod Suits
pub mod Lent
-- the effect of a frame
pub mod Meant
pub mod Carried
pub mod Codes
-- settling
pub mod Rounds
pub mod Meeting
pub mod Kept
-- the step
pub mod Stepped
