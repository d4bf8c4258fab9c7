-- `place` goes from the last record back: all from record k on are due later than the time, and none before the first of them.
use Prim.Native.Nat.{suc}
use lib.ListN.{drop}
use Rattle.timers.specs.Timers.{records_in, AllFrom}
use Rattle.timers.proofs.Timers.place.Given as goal

abbrev pub invariant-loop-k : goal.invariant-loop-k
invariant-loop-k l =
    let a = l.self in
    AllFrom (suc l.due) (drop l.k (records_in a.count a.rows.now)) × AllFrom l.first (drop l.k (records_in a.count a.rows.now))
