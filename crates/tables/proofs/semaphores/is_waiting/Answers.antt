-- `is_waiting` goes by what the semaphore is.
use Rattle.tables.specs.Decode.{view_semaphore}
use Rattle.ledger.specs.Refusals.{is_waiting}
use Rattle.tables.specs.Semaphores.{waiting_told, not_waiting_told}
use Rattle.tables.proofs.semaphores.is_waiting.Goals as goal

pub returns-in-Waiting : goal.returns-in-Waiting
unfolding is_waiting view_semaphore
returns-in-Waiting c = waiting_told c.args.b c.load.ensures.tells c.in-Waiting.is

pub returns-in_default : goal.returns-in_default
returns-in_default c = not_waiting_told c.load.result c.args.b c.load.ensures.tells c.in_default.not-Waiting
