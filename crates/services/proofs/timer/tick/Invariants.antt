-- `tick` advances the clock, then takes each due timer and signals for it: after k turns k of them have been drained.
use Rattle.std.proofs.Common.{◌+◌, ◌≤◌}
use Rattle.timers.specs.Timers.{due_in}
use Rattle.tables.specs.Lent.{Step}
use Rattle.clock.specs.Held.{held_in}
use Rattle.clock.specs.Tocks.{Turned}
use Rattle.services.proofs.timer.tick.Given as goal

abbrev pub invariant-loop : goal.invariant-loop
invariant-loop l = (l.n ≤ l.counter + due_in (held_in l.tables.shape l.timers)) × Step l.initial.tables l.tables (λ s d d'. Turned s d l.initial.timers d' l.timers l.counter)
