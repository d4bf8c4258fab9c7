-- No more of a line is held than tells that it is too long.
use Rattle.std.proofs.Common.{◌≤◌}
use Rattle.feeding.specs.Line.{most}
use Rattle.session.proofs.feed_all.Given as goal

abbrev pub invariant-loop : goal.invariant-loop
invariant-loop l = l.reached.held ≤ most
