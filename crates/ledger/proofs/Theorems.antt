-- What is proved of the definitions alone.
-- The sheet's theorems:
--   Settling: settles, one_end, at_most_2t, loop_at_most_2t. Lowest: lowest_runs. Shown: lowest_shown, reissues_shown. Refused: refused_changes_nothing. HandedOut: handed_out. HandedOver: handed_over. Sound: sound. ToldAfter: signal_tells. Callers: told_by_own_signal.
--   Starts: executes_after, started_after, begins_after. Freed: dropped_frees. Turns: misses_no_turn. Turns/Pair: one_at_a_time, no_second, this_very_timer. Turns/Signalled: turn_signals. Turns/Passed: tocks_are. TurnsSeen: none_missed, each_signals.

-- laws of lists, of checks and of signals
pub mod Items
pub mod Parts
pub mod Checks
pub mod Keeps
pub mod Twos
pub mod Signals
pub mod Fresh
-- the running task, settling and the sizes, for every ledger
pub mod Lowest
pub mod Settling
pub mod Sizes
pub mod Refused
-- what an accepted configuration and an accepted frame say
pub mod Configured
pub mod Within
pub mod Accepted
pub mod Shown
-- each step as a chain of changes, and what every change keeps
pub mod Tocks
pub mod Changes
pub mod Named
pub mod Terminated
pub mod Steps
pub mod Kept
pub mod HandedOut
pub mod Sound
-- what the queues hand out lies in slots (HandsOver): slots change by a dequeue alone, and one issue takes at most one entry
pub mod Untaken
pub mod Issued
pub mod HandsOver
pub mod HandedOver
-- what a frame does to one task, read backwards; Callers and Starts are instances
pub mod Walk
-- whom a signal request tells, before settling and after its frame (request_tells, signal_tells), and that nobody else is told (told_by_own_signal)
pub mod Told
pub mod ToldAfter
pub mod Callers
-- messages dropped one by one (drop_turn); a dropped message frees its sender (dropped_frees)
pub mod Dropped
pub mod Freed
-- a task is started only after its firsts (executes_after, started_after, begins_after)
pub mod Starts
-- messages 1 to G, none twice: every step of every ledger keeps it (once_step)
pub mod Once
-- frames and lines without code $12 are answered as before there was one (same_run, same_session, same_output)
pub mod WithoutSeason
-- lines and frames are inverse to each other (written_reads_back, read_is_the_line); a tock value at every width (negative, lowest, some_tocks, widened), and a season timer of so few tocks is a timer (as_timer); milliseconds as the nearest tocks (nearest_is, only_nearest)
pub mod Lines
pub mod TockValues
pub mod AsTimer
pub mod Nearest
-- a timer misses no turn (misses_no_turn), and each turn signals (turn_signals); so it is in what a host would see of the ledger (none_missed, each_signals)
pub mod Turns
pub mod TurnsSeen
