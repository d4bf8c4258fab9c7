pub mod Rings
pub mod Waits
pub mod Holding
pub mod Putting
pub mod Taking
