-- `dequeue` waits where the queue holds nothing, and completes where it holds something.
use Rattle.tables.specs.Lent.{by}
use Rattle.queues.specs.Waits.{holds_none, holds_some}
use Rattle.services.proofs.queue.dequeue.Goals as goal

pub returns-then-count-eq0 : goal.returns-then-count-eq0
returns-then-count-eq0 c =
    let a = c.args in
    let t = a.tables.now in
    by c.wait_to_dequeue.ensures (λ waits tidy g L w er h. waits tidy g L _ w (holds_none g t.shape L t.bytes.now a.slots.now w h a.q c.requires.1 a.ring er _ c.count.ensures c.if-count-eq0.true) h)

pub returns : goal.returns
returns c =
    let a = c.args in
    let t = a.tables.now in
    by c.complete_dequeue.ensures (λ completes tidy g L w er h. completes tidy g L w (holds_some g t.shape L t.bytes.now a.slots.now w h a.q c.requires.1 a.ring er _ c.count.ensures c.if-count-eq0.false) h)
