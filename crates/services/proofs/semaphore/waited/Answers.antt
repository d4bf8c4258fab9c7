-- `waited` goes by what the semaphore is: PENDING becomes WAITING, DONE becomes PENDING.
use Rattle.tables.specs.Decode.{view_semaphore}
use Rattle.tables.specs.Lent.{by, stays}
use Rattle.ledger.specs.Services.{waited}
use Rattle.services.specs.Semaphores.{waited_arm}
use Rattle.services.proofs.semaphore.waited.Goals as goal

pub returns-in-Pending : goal.returns-in-Pending
unfolding waited view_semaphore
returns-in-Pending c = by c.wait_for.ensures (waited_arm _ _ c.args.b _ _ c.semaphore.ensures.tells c.in-Pending.is c.args.t)

pub returns-in-Done : goal.returns-in-Done
unfolding waited view_semaphore
returns-in-Done c = by c.set_semaphore.ensures (waited_arm _ _ c.args.b _ _ c.semaphore.ensures.tells c.in-Done.is c.args.t)

pub returns-in-Waiting : goal.returns-in-Waiting
unfolding waited view_semaphore
returns-in-Waiting c = stays (waited_arm _ _ c.args.b _ _ c.semaphore.ensures.tells c.in-Waiting.is c.args.t (λ tidy g L z w h. h))
