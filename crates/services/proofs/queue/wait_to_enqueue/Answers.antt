-- `wait_to_enqueue` waits on not_full and opens the request with its bytes.
use Rattle.tables.specs.Lent.{going}
use Rattle.services.specs.Queues.{enqueue_waits}
use Rattle.services.proofs.queue.wait_to_enqueue.Goals as goal

pub returns : goal.returns
returns c =
    let a = c.args in
    let t = a.tables.now in
    going c.wait_for.ensures c.set_enqueue.ensures (λ waits opens tidy g L z w p h. enqueue_waits g t.shape L t.bytes.now z w h a.q a.t _ c.not_full-full.ensures.0 a.entry.now p.1 waits (λ tidy M k. opens tidy g M z w p.0 k))
