pub mod Whole
pub mod Session
-- Its functions in the world of a build.
pub mod Linked
