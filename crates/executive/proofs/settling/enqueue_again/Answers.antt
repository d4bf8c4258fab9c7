-- `enqueue_again` keeps a copy of the entry that waits and closes the request. It completes where the queue has room; else it ends refused, if
-- somebody waits on not-full, or waits there.
use mathlib.Core.List.{List}
use mathlib.Core.Bool.{false}
use mathlib.Core.Path.{refl, ap, ◌∙◌}
use Prim.Native.Nat.{ℕ}
use Rattle.tables.specs.Decode.{view_outcome, view_request}
use Rattle.tables.specs.Lent.{going}
use Rattle.tables.specs.Shows.{loosely, moved}
use Rattle.queues.specs.Rings.{width_is}
use Rattle.queues.specs.Waits.{put_goes, is_full, room_left}
use Rattle.ledger.specs.Config.{config_in}
use Rattle.ledger.specs.Ledger as ledger
use Rattle.ledger.specs.Ledger.{set_outcome, set_request, refused, none}
use Rattle.ledger.specs.Session.{refused21}
use Rattle.ledger.specs.Services as services
use Rattle.executive.specs.Meeting.{again_yes, again_no, entry_is, entry_long, entry_short}
use Rattle.executive.proofs.settling.enqueue_again.Goals as goal

pub complete_enqueue-requires : goal.complete_enqueue-requires
complete_enqueue-requires c = rw c.set_request.ensures.shape (c.ring-r.ensures.1, c.requires.2, entry_long _ _ c.copy_waiting.auto.entry c.ring-r.ensures.1.narrow)

pub returns-then-count-r : goal.returns-then-count-r
unfolding view_request refused21
returns-then-count-r c =
    let a = c.args in
    let b = a.tables.now in
    let r = c.ring-r.ensures in
    let p = c.set_request.ensures in
    let n = rw p.shape at c.count.ensures in
    going p c.complete_enqueue.ensures (λ closed completes tidy L z w h.
    let g = config_in a.config.now in
    let M = set_request a.t none L in
    let k = closed tidy g L z w h in
    let e = ap (λ y. y.width) r.0 ∙ width_is g b.shape a.q c.requires.2.0 in
    let x = entry_is _ _ _ _ c.copy_waiting.ensures e in
    moved (ap (λ (y : List ℕ). services.issue g a.t (ledger.enqueue a.q y) M) x ∙ again_no g a.t _ M false (put_goes b.shape _ a.q c.requires.2 _ _ n c.if-count-r.true g M z w r.0 (loosely k)) refl)
    (completes tidy g M z w (rw p.shape (room_left g b.shape M _ z w k a.q c.requires.2 _ r.0 _ n c.if-count-r.true)) k))

pub returns-then-put_waits : goal.returns-then-put_waits
unfolding view_outcome view_request refused21
returns-then-put_waits c =
    let a = c.args in
    let r = c.ring-r.ensures in
    let p = c.set_request.ensures in
    let waits = rw p.shape at c.put_waits.ensures in
    going p c.set_outcome.ensures.does (λ closed ends tidy L z w h.
    let g = config_in a.config.now in
    let M = set_request a.t none L in
    let k = closed tidy g L z w h in
    moved (ap (λ (n : ℕ). set_outcome a.t (refused n) M) c.from.ensures ∙ again_yes g a.t _ M _ (waits g M z w r.0 (loosely k)) c.if-put_waits.true) (ends tidy g M z w k))

pub wait_to_enqueue-requires : goal.wait_to_enqueue-requires
wait_to_enqueue-requires c = rw c.set_request.ensures.shape (c.requires.2, c.requires.1, entry_short _ _ c.copy_waiting.auto.entry c.ring-r.ensures.1.narrow)

pub returns : goal.returns
unfolding view_request refused21
returns c =
    let a = c.args in
    let b = a.tables.now in
    let r = c.ring-r.ensures in
    let p = c.set_request.ensures in
    let n = rw p.shape at c.count.ensures in
    let waits = rw p.shape at c.put_waits.ensures in
    going p c.wait_to_enqueue.ensures (λ closed opens tidy L z w h.
    let g = config_in a.config.now in
    let M = set_request a.t none L in
    let k = closed tidy g L z w h in
    let e = ap (λ y. y.width) r.0 ∙ width_is g b.shape a.q c.requires.2.0 in
    let x = entry_is _ _ _ _ c.copy_waiting.ensures e in
    let l = entry_long _ _ c.copy_waiting.auto.entry r.1.narrow in
    moved (ap (λ (y : List ℕ). services.issue g a.t (ledger.enqueue a.q y) M) x ∙ again_no g a.t _ M _ (waits g M z w r.0 (loosely k)) c.if-put_waits.false)
    (opens tidy g M z w (l ∙ e, is_full g b.shape M _ z w k a.q c.requires.2 _ r.0 _ n c.if-count-r.false) k))
