-- What the bytes mean.
pub mod Timers
-- What the rows' changes are on the timers that they mean.
pub mod Order
pub mod Reading
pub mod Due
-- Rows in order: each timer is due at its own row's time, and what keeps them so.
pub mod Upright
-- The bytes of the rows, and the loops and calls over them.
pub mod Bytes
pub mod Records
pub mod Loops
pub mod Ends
pub mod Tocks
-- The rows as they are lent.
pub mod Lent
-- What the changes are to every ledger whose timers the bytes show.
pub mod Lists
pub mod Shown
pub mod Drained
