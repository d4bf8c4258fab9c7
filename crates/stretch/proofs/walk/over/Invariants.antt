-- The stretch so far has its sum, which is small, and the best so far is that of the stretches before.
use Rattle.std.proofs.Common.{◌≡◌, ◌≤◌, ◌+◌, ◌*◌}
use Rattle.stretch.specs.Busiest.{counts, stretch_sum, best_upto}
use Rattle.stretch.proofs.walk.over.Given as goal

abbrev pub invariant-loop-before : goal.invariant-loop-before
invariant-loop-before l =
    (l.sum ≡ stretch_sum l.w (counts l.records) l.before) × (l.sum ≤ 65535 * (l.w + l.before)) × (l.best ≡ best_upto l.w (counts l.records) l.before)
