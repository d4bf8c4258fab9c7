-- `delay` starts the timer, then waits for its task.
use Rattle.tables.specs.Lent.{by}
use Rattle.ledger.specs.Services as ledger
use Rattle.services.proofs.timer.delay.Goals as goal

pub returns : goal.returns
returns c =
    let a = c.args in
    by c.wait_for.ensures (λ waits v ev ep tidy g L z l h. waits tidy g (ledger.start_timer a.a a.b v L) z _ (c.start.ensures v ev ep tidy g L a.tables.now.bytes.now z l h))
