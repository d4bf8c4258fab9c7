pub mod Semaphores
pub mod Messages
pub mod Dropped
pub mod Queues
pub mod Tasks
pub mod Timers
