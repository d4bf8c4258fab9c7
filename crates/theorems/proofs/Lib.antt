pub mod TurnsKept
-- a call, as the checker says it
pub mod Learnt
pub mod Demand3
-- the environment in which the functions are run
pub mod World
-- the runs of a session
pub mod OneCall
pub mod Runs
pub mod SessionStart
pub mod CallOneRun
pub mod RunCalls
pub mod EveryRun
pub mod BothRun
-- of lines and milliseconds
pub mod LineRuns
-- of the busiest stretch
pub mod BusiestRuns
-- of a free start
pub mod FreeStartRuns
-- of the session program's functions
pub mod OneFeed
pub mod InputRuns
pub mod InputCalls
pub mod InputHasRuns
pub mod InputOneRun
pub mod ProgramRuns
