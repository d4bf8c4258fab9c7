-- `wake` signals a semaphore that is WAITING, and leaves any other.
use Rattle.tables.specs.Decode.{view_semaphore}
use Rattle.tables.specs.Lent.{by, stays}
use Rattle.ledger.specs.Services.{woken}
use Rattle.services.specs.Semaphores.{wake_arm}
use Rattle.services.proofs.semaphore.wake.Goals as goal

pub returns-in-Pending : goal.returns-in-Pending
unfolding woken view_semaphore
returns-in-Pending c = stays (wake_arm _ _ c.args.b _ _ c.semaphore.ensures.tells c.in-Pending.is (λ tidy g L z w h. h))

pub returns-in-Done : goal.returns-in-Done
unfolding woken view_semaphore
returns-in-Done c = stays (wake_arm _ _ c.args.b _ _ c.semaphore.ensures.tells c.in-Done.is (λ tidy g L z w h. h))

pub returns-in-Waiting : goal.returns-in-Waiting
unfolding woken view_semaphore
returns-in-Waiting c = by c.signal_one.ensures.does (wake_arm _ _ c.args.b _ _ c.semaphore.ensures.tells c.in-Waiting.is)
