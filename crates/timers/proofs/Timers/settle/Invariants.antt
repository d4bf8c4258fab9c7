-- `settle`: the first k records are settled.
use Rattle.rows.specs.Rows.{map_upto}
use Rattle.timers.specs.Timers.{records_in, settled_by, Leaves}
use Rattle.timers.specs.Lent.{Lent}
use Rattle.timers.proofs.Timers.settle.Given as goal

abbrev pub invariant-loop-k : goal.invariant-loop-k
invariant-loop-k l =
    let a = l.initial.self in
    Leaves a.count a.rows.now l.self.rows.now (map_upto (settled_by l.back l.floor) l.k (records_in a.count a.rows.now)) × Lent a l.self a.count
