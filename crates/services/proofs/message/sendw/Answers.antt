-- `sendw` sends, then waits.
use Rattle.tables.specs.Lent.{onward}
use Rattle.services.proofs.message.sendw.Goals as goal

pub returns : goal.returns
returns c = onward c.send.ensures c.wait_for.ensures
