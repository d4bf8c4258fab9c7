-- The records of the tasks before i tell how they begin.
use Rattle.configuration.specs.Written.{Begun}
use Rattle.configuration.proofs.fresh.begin.Given as goal

abbrev pub invariant-loop-i : goal.invariant-loop-i
invariant-loop-i l = Begun l.states l.initial.records l.records l.i
