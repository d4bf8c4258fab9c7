pub mod Views
pub mod Signs
pub mod Examples
