-- What is computed is what is asked, and nothing else is.
pub mod Theorems
-- The running sum over plain lists.
pub mod Sums
-- Its functions in the world of a build.
pub mod Linked
