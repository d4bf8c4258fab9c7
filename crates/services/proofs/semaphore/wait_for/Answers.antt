-- `wait_for` stores WAITING, then gives the task event wait.
use Rattle.tables.specs.Decode.{view_semaphore}
use Rattle.tables.specs.Lent.{onward}
use Rattle.ledger.specs.Services.{wait_for}
use Rattle.services.proofs.semaphore.wait_for.Goals as goal

pub returns : goal.returns
unfolding wait_for view_semaphore
returns c = onward c.set_semaphore.ensures c.set_block.ensures
