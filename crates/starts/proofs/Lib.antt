-- Two timers collide exactly if the divisor of their periods divides the distance of their starts.
pub mod Collisions
-- 256 starts are enough.
pub mod Enough
-- One answer to every call, exactly where it should be.
pub mod Theorems
-- The computed answer is the answer.
pub mod Computed
-- What the search finds is what is asked.
pub mod Found
-- Its functions in the world of a build.
pub mod Linked
