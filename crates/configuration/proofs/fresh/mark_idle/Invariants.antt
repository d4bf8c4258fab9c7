-- The tasks before i are marked.
use Rattle.configuration.specs.Written.{Marked}
use Rattle.configuration.proofs.fresh.mark_idle.Given as goal

abbrev pub invariant-loop-i : goal.invariant-loop-i
invariant-loop-i l = Marked l.states l.initial.planes l.planes l.i
