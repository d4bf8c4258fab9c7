-- `purge`: what it keeps of all is what it keeps of those that are left, and of these each from timer k on stays.
use Prim.Native.Nat.{◌≤◌}
use Rattle.std.proofs.Common.{is_none, unwrap_or}
use Rattle.timers.specs.Timers.{stays}
use Rattle.timers.specs.Loops.{Purged}
use Rattle.timers.specs.Lent.{held, InOrder, Lent}
use Rattle.timers.proofs.Timers.purge.Given as goal

abbrev pub invariant-loop-k : goal.invariant-loop-k
invariant-loop-k l =
    let a = l.initial.self in
    (l.self.count ≤ a.count) × Purged (stays l.task (is_none l.fn.semaphore) (unwrap_or l.fn.semaphore 0)) l.self.count l.k l.self.rows.now (held a) × InOrder a l.self × Lent a l.self l.self.count
