pub mod Front
pub mod Pairs
pub mod Digits
pub mod Giving
-- Its functions in the world of a build.
pub mod Linked
