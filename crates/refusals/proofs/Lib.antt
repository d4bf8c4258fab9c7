-- Its functions in the world of a build.
pub mod Linked
