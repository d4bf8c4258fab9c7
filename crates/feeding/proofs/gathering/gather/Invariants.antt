-- The bytes up to i are gathered, and no end is among them.
use Rattle.feeding.specs.Line.{Gathering}
use Rattle.feeding.proofs.gathering.gather.Given as goal

abbrev pub invariant-loop-i : goal.invariant-loop-i
invariant-loop-i l = Gathering l.input l.from l.initial.line l.fn.held l.i l.held l.line
