-- What the timers' block holds, and the ledgers that it shows.
pub mod Held
pub mod Does
-- A tick, and the tock that it may bring.
pub mod Ticks
pub mod Tocks
-- What each function leaves in the timers' block.
pub mod Changed
