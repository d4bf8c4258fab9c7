-- A start that is passed is hit.
use Rattle.std.proofs.Common.{below_more}
use Rattle.starts.specs.Decided.{holds}
use Rattle.starts.proofs.table.first_free.Goals as goal

pub loop-start-preserved : goal.loop-start-preserved
loop-start-preserved c = below_more _ _ c.loop-start.invariant (holds c.if-not-hit.false c.hit.ensures)
