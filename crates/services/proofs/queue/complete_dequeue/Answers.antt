-- `complete_dequeue` takes the oldest entry and wakes the waiter of not_full.
use Rattle.tables.specs.Lent.{going}
use Rattle.services.specs.Queues.{dequeue_completes}
use Rattle.services.proofs.queue.complete_dequeue.Goals as goal

pub returns : goal.returns
returns c =
    let a = c.args in
    let t = a.tables.now in
    let n = rw c.take.ensures.shape at (c.not_full-full.ensures.0) in
    going c.take.ensures c.wake.ensures (λ takes wakes tidy g L w p h. dequeue_completes g t.shape L t.bytes.now a.slots.now w h a.q a.t _ n p.1 (λ e es eh. takes e es tidy g L w (p.0, eh) h) wakes)
