-- `enqueue` waits where the queue is full, and completes where it has room.
use mathlib.Core.Path.{ap, ◌∙◌}
use Rattle.tables.specs.Lent.{by}
use Rattle.queues.specs.Rings.{width_is}
use Rattle.queues.specs.Waits.{is_full, room_left}
use Rattle.services.proofs.queue.enqueue.Goals as goal

pub returns-then-count-ring : goal.returns-then-count-ring
returns-then-count-ring c =
    let a = c.args in
    let t = a.tables.now in
    by c.wait_to_enqueue.ensures (λ waits tidy g L z w er h. waits tidy g L z w (c.requires.3 ∙ ap (λ r. r.width) er ∙ width_is g t.shape a.q c.requires.1.0, is_full g t.shape L t.bytes.now z w h a.q c.requires.1 a.ring er _ c.count.ensures c.if-count-ring.true) h)

pub returns : goal.returns
returns c =
    let a = c.args in
    let t = a.tables.now in
    by c.complete_enqueue.ensures (λ completes tidy g L z w er h. completes tidy g L z w (room_left g t.shape L t.bytes.now z w h a.q c.requires.1 a.ring er _ c.count.ensures c.if-count-ring.false) h)
