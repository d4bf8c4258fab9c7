-- The sum of the records so far, which is small.
use Rattle.std.proofs.Common.{◌≡◌, ◌≤◌, ◌*◌, sum, take}
use Rattle.stretch.specs.Busiest.{counts}
use Rattle.stretch.proofs.walk.reissues.Given as goal

abbrev pub invariant-loop-record : goal.invariant-loop-record
invariant-loop-record l = (l.sum ≡ sum (take l.record-index (counts l.records))) × (l.sum ≤ 65535 * l.record-index)
