pub mod Splice
pub mod Laws
pub mod Rows
pub mod First
pub mod Tab
pub mod Bytes
pub mod Four
pub mod Short
