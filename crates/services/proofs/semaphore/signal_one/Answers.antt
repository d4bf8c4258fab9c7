-- `signal_one` goes by what the semaphore is: WAITING becomes PENDING and its task loses event wait, otherwise DONE.
use mathlib.Core.Path.{refl}
use Rattle.tables.specs.Decode.{view_semaphore}
use Rattle.tables.specs.Lent.{by, onward}
use Rattle.ledger.specs.Services.{signalled}
use Rattle.services.specs.Semaphores.{waiter, signal_arm, signal_told}
use Rattle.services.proofs.semaphore.signal_one.Goals as goal

pub returns-in-Pending : goal.returns-in-Pending
unfolding signalled view_semaphore
returns-in-Pending c =
    let l = c.semaphore.ensures.tells in
    record { does = by c.set_semaphore.ensures (signal_arm _ _ c.args.b _ _ l c.in-Pending.is); tells = signal_told _ _ c.args.b _ _ l c.in-Pending.is _ (λ L. refl); task = tt }

pub returns-in-Done : goal.returns-in-Done
unfolding signalled view_semaphore
returns-in-Done c =
    let l = c.semaphore.ensures.tells in
    record { does = by c.set_semaphore-in-Done.ensures (signal_arm _ _ c.args.b _ _ l c.in-Done.is); tells = signal_told _ _ c.args.b _ _ l c.in-Done.is _ (λ L. refl); task = tt }

pub returns-in-Waiting : goal.returns-in-Waiting
unfolding signalled view_semaphore
returns-in-Waiting c =
    let l = c.semaphore.ensures.tells in
    record { does = by (onward c.set_semaphore-in-Waiting.ensures c.set_block.ensures) (signal_arm _ _ c.args.b _ _ l c.in-Waiting.is); tells = signal_told _ _ c.args.b _ _ l c.in-Waiting.is _ (λ L. refl); task = waiter c.in-Waiting.is c.semaphore.ensures.waiter }
