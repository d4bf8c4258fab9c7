-- `dequeue_again` closes the request. It completes where the queue holds something; else it ends refused, if somebody waits on not-empty, or waits there.
use Prim.Native.Nat.{ℕ}
use mathlib.Core.Path.{refl, ap, ◌∙◌}
use mathlib.Core.Bool.{false}
use Rattle.tables.specs.Decode.{view_outcome, view_request}
use Rattle.tables.specs.Lent.{going}
use Rattle.tables.specs.Shows.{loosely, moved}
use Rattle.queues.specs.Waits.{take_goes, holds_none, holds_some}
use Rattle.ledger.specs.Config.{config_in}
use Rattle.ledger.specs.Ledger.{set_outcome, set_request, refused, none}
use Rattle.ledger.specs.Session.{refused21}
use Rattle.executive.specs.Suits.{room}
use Rattle.executive.specs.Lent.{over}
use Rattle.executive.specs.Meeting.{again_yes, again_no}
use Rattle.executive.proofs.settling.dequeue_again.Goals as goal

pub complete_dequeue-requires : goal.complete_dequeue-requires
complete_dequeue-requires c = rw c.set_request.ensures.shape (c.ring-r.ensures.1, c.requires.1, c.requires.0, room c.args.lent.now.slotted)

pub returns-then-count-ne0 : goal.returns-then-count-ne0
unfolding view_request refused21
returns-then-count-ne0 c =
    let a = c.args in
    let b = a.lent.now in
    let r = c.ring-r.ensures in
    let p = c.set_request.ensures in
    let n = rw p.shape at c.count.ensures in
    over refl refl refl (going p c.complete_dequeue.ensures (λ closed completes tidy L w h.
    let g = config_in a.lent.now.config.now in
    let z = a.lent.now.slots.now in
    let M = set_request a.t none L in
    let k = closed tidy g L z w h in
    moved (again_no g a.t _ M false (take_goes b.tables.now.shape _ a.q c.requires.1 _ _ n c.if-count-ne0.true g M z w r.0 (loosely k)) refl)
    (completes tidy g M w (rw p.shape (holds_some g b.tables.now.shape M _ z w k a.q c.requires.1 _ r.0 _ n c.if-count-ne0.true)) k)))

pub returns-then-take_waits : goal.returns-then-take_waits
unfolding view_outcome view_request refused21
returns-then-take_waits c =
    let a = c.args in
    let r = c.ring-r.ensures in
    let p = c.set_request.ensures in
    let waits = rw p.shape at c.take_waits.ensures in
    over refl refl refl (going p c.set_outcome.ensures.does (λ closed ends tidy L w h.
    let g = config_in a.lent.now.config.now in
    let z = a.lent.now.slots.now in
    let M = set_request a.t none L in
    let k = closed tidy g L z w h in
    moved (ap (λ (n : ℕ). set_outcome a.t (refused n) M) c.from.ensures ∙ again_yes g a.t _ M _ (waits g M z w r.0 (loosely k)) c.if-take_waits.true) (ends tidy g M z w k)))

pub returns : goal.returns
unfolding view_request refused21
returns c =
    let a = c.args in
    let b = a.lent.now in
    let r = c.ring-r.ensures in
    let p = c.set_request.ensures in
    let n = rw p.shape at c.count.ensures in
    let waits = rw p.shape at c.take_waits.ensures in
    over refl refl refl (going p c.wait_to_dequeue.ensures (λ closed opens tidy L w h.
    let g = config_in a.lent.now.config.now in
    let z = a.lent.now.slots.now in
    let M = set_request a.t none L in
    let k = closed tidy g L z w h in
    moved (again_no g a.t _ M _ (waits g M z w r.0 (loosely k)) c.if-take_waits.false)
    (opens tidy g M z w (holds_none g b.tables.now.shape M _ z w k a.q c.requires.1 _ r.0 _ n c.if-count-ne0.false) k)))
