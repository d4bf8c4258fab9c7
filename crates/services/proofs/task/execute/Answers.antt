-- `execute` withdraws the task's wait, then sets the record of a task that begins.
use Rattle.tables.specs.Decode.{view_blocks, view_outcome}
use Rattle.tables.specs.Lent.{onward}
use Rattle.ledger.specs.Ledger.{set_semaphores, task}
use Rattle.ledger.specs.Services as ledger
use Rattle.services.proofs.task.execute.Goals as goal

pub returns : goal.returns
unfolding ledger.execute ledger.withdraw_wait set_semaphores task view_blocks view_outcome
returns c = onward c.withdraw.ensures c.set_record.ensures
