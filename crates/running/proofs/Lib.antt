pub mod SlicesStop
pub mod Runs
pub mod Stored
pub mod Buffer
