-- `prepare` stores the plain outcome of a service.
use Rattle.tables.specs.Decode.{view_outcome}
use Rattle.executive.proofs.carrying.prepare.Goals as goal

pub returns-then-service-clause-does : goal.returns-then-service-clause-does
unfolding view_outcome
returns-then-service-clause-does c = rw c.if-service.true c.set_outcome.ensures.does
