-- `send` puts the message in, wakes the receiver from its message wait, and shows the semaphore.
use Rattle.tables.specs.Decode.{view_outcome}
use Rattle.tables.specs.Lent.{onward}
use Rattle.ledger.specs.Services as ledger
use Rattle.services.proofs.message.send.Goals as goal

pub returns : goal.returns
unfolding ledger.send view_outcome
returns c = onward (onward c.insert.ensures c.set_block.ensures) c.set_outcome.ensures.does
