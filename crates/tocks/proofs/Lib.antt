pub mod Sign
pub mod Opposite
pub mod Complement
pub mod Rounding
-- Its functions in the world of a build.
pub mod Linked
