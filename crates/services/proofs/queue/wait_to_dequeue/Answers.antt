-- `wait_to_dequeue` waits on not-empty and opens the request.
use Rattle.tables.specs.Decode.{view_request}
use Rattle.tables.specs.Lent.{going}
use Rattle.services.specs.Queues.{dequeue_waits}
use Rattle.services.proofs.queue.wait_to_dequeue.Goals as goal

pub returns : goal.returns
unfolding view_request
returns c =
    let a = c.args in
    let t = a.tables.now in
    going c.wait_for.ensures c.set_request.ensures (λ waits opens tidy g L z w n h. dequeue_waits g t.shape L t.bytes.now z w h a.q a.t _ c.not_full-full.ensures.0 n waits opens)
