-- Document 01's numbers: each refusal's, and 0 where a call is accepted.
use Rattle.std.specs.Prelude.{ℕ, ◌≤◌, Result, Ok, Err}
use Rattle.std.proofs.Common.{arith}
use Rattle.refusals.specs.declared.Refusal.{Refusal}
use Rattle.refusals.specs.declared.Refusal.TheVariants as refusal

abbrev pub number_of : Refusal → ℕ
number_of refusal.Line = 1
number_of refusal.Length = 2
number_of refusal.Configuration = 3
number_of refusal.Code = 4
number_of refusal.Task = 5
number_of refusal.Semaphore = 6
number_of refusal.Queue = 7
number_of refusal.Message = 8
number_of refusal.TockValue = 9
number_of refusal.Milliseconds = 10
number_of refusal.Memory = 11
number_of refusal.NullTaskRuns = 20
number_of refusal.SemaphoreWaiting = 21
number_of refusal.MessageInMailbox = 22
number_of refusal.AllTimersActive = 23
number_of refusal.HasATimer = 24
number_of refusal.IdleOrWaiting = 25
number_of refusal.BeforeFirst = 26
number_of refusal.AboveModule = 27
number_of refusal.Stretch = 28
number_of refusal.Cycles = 31

abbrev pub number_in : Result Unit Refusal → ℕ
number_in (Ok _) = 0
number_in (Err refused) = number_of refused

-- no refusal goes by 0, the number of what is accepted
pub number_some : (refused : Refusal) → 1 ≤ number_of refused
number_some refusal.Line = omega arith
number_some refusal.Length = omega arith
number_some refusal.Configuration = omega arith
number_some refusal.Code = omega arith
number_some refusal.Task = omega arith
number_some refusal.Semaphore = omega arith
number_some refusal.Queue = omega arith
number_some refusal.Message = omega arith
number_some refusal.TockValue = omega arith
number_some refusal.Milliseconds = omega arith
number_some refusal.Memory = omega arith
number_some refusal.NullTaskRuns = omega arith
number_some refusal.SemaphoreWaiting = omega arith
number_some refusal.MessageInMailbox = omega arith
number_some refusal.AllTimersActive = omega arith
number_some refusal.HasATimer = omega arith
number_some refusal.IdleOrWaiting = omega arith
number_some refusal.BeforeFirst = omega arith
number_some refusal.AboveModule = omega arith
number_some refusal.Stretch = omega arith
number_some refusal.Cycles = omega arith
