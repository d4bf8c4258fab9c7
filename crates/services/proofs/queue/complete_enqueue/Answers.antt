-- `complete_enqueue` puts the entry and wakes the waiter of not-empty.
use Rattle.tables.specs.Lent.{going}
use Rattle.queues.specs.Waits.{room_is}
use Rattle.services.specs.Queues.{enqueue_completes}
use Rattle.services.proofs.queue.complete_enqueue.Goals as goal

pub returns : goal.returns
returns c =
    let a = c.args in
    let t = a.tables.now in
    let n = rw c.put.ensures.shape at (c.not_full-full.ensures.0) in
    going c.put.ensures c.wake.ensures (λ puts wakes tidy g L z w k h. enqueue_completes g t.shape L t.bytes.now z w h a.q a.t _ n a.entry.now (room_is g t.shape L a.q c.requires.1 a.ring k) (puts tidy g L z w k h) wakes)
