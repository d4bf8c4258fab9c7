pub mod Signed
pub mod Results
pub mod Inside
-- Its functions in the world of a build.
pub mod Linked
