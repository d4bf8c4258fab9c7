-- `wait` waits, then shows the semaphore.
use Rattle.tables.specs.Decode.{view_outcome}
use Rattle.tables.specs.Lent.{onward}
use Rattle.ledger.specs.Services as ledger
use Rattle.services.proofs.semaphore.wait.Goals as goal

pub returns : goal.returns
unfolding ledger.wait view_outcome
returns c = onward c.waited.ensures c.set_outcome.ensures.does
