-- `reissue` goes by the request in the running task's record, which is the ledger's open request: closed and issued again.
use mathlib.Core.Path.{refl, ap}
use Rattle.tables.specs.Decode.{view_request}
use Rattle.ledger.specs.Config.{config_in}
use Rattle.tables.specs.Lent as tables
use Rattle.executive.specs.Suits.{frame}
use Rattle.executive.specs.Lent.{over}
use Rattle.executive.specs.Meeting.{turn_none, turn_open, asked, asked_put}
use Rattle.executive.proofs.settling.reissue.Goals as goal

pub dequeue_again-requires : goal.dequeue_again-requires
dequeue_again-requires c = (c.requires, asked c.in-Dequeue.is c.task-request.ensures.1)

pub enqueue_again-requires : goal.enqueue_again-requires
enqueue_again-requires c = (frame c.args.lent.now.slotted, c.requires, asked_put c.in-Enqueue.is c.task-request.ensures.1)

pub returns-in-None : goal.returns-in-None
unfolding view_request
returns-in-None c =
    let a = c.args in
    let b = a.lent.now in
    let d = b.tables.now.bytes.now in
    let z = b.slots.now in
    over refl refl refl (tables.stays (λ tidy L w h e o. turn_none (config_in b.config.now) b.tables.now.shape L d z w h a.running _ _ c.requires (ap (λ k. k.request) c.task-request.ensures.0) c.in-None.is e refl o))

pub returns-in-Receive : goal.returns-in-Receive
unfolding view_request
returns-in-Receive c =
    let a = c.args in
    let b = a.lent.now in
    let g = config_in b.config.now in
    let d = b.tables.now.bytes.now in
    let z = b.slots.now in
    over refl refl refl (tables.by c.receive_again.ensures (λ again tidy L w h e o. turn_open g b.tables.now.shape L d z w h a.running _ _ c.requires (ap (λ k. k.request) c.task-request.ensures.0) c.in-Receive.is e (again tidy g L z w h)))

pub returns-in-Dequeue : goal.returns-in-Dequeue
unfolding view_request
returns-in-Dequeue c =
    let a = c.args in
    let b = a.lent.now in
    let d = b.tables.now.bytes.now in
    let z = b.slots.now in
    let p = c.dequeue_again.ensures in
    over p.config p.reference p.slots (tables.by p.tables (λ again tidy L w h e o. turn_open (config_in b.config.now) b.tables.now.shape L d z w h a.running _ _ c.requires (ap (λ k. k.request) c.task-request.ensures.0) c.in-Dequeue.is e (again tidy L w h)))

pub returns-in-Enqueue : goal.returns-in-Enqueue
unfolding view_request
returns-in-Enqueue c =
    let a = c.args in
    let b = a.lent.now in
    let d = b.tables.now.bytes.now in
    let z = b.slots.now in
    over refl refl refl (tables.by c.enqueue_again.ensures (λ again tidy L w h e o. turn_open (config_in b.config.now) b.tables.now.shape L d z w h a.running _ _ c.requires (ap (λ k. k.request) c.task-request.ensures.0) c.in-Enqueue.is e (again tidy L z w h)))
