-- `has` is a search: no timer before place k is for that task and semaphore.
use mathlib.Core.Path.{◌≡◌}
use Prim.Native.Nat.{◌+◌}
use lib.ListN.{drop}
use Rattle.rows.specs.First.{first_of}
use Rattle.timers.specs.Timers.{timers_in, started_for}
use Rattle.timers.proofs.has.Given as goal

abbrev pub invariant-loop-k : goal.invariant-loop-k
invariant-loop-k l = first_of (started_for l.task l.semaphore) (timers_in l.n l.b) ≡ l.k + first_of (started_for l.task l.semaphore) (drop l.k (timers_in l.n l.b))
