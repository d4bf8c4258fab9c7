-- `carried`: the meant fields by the code's row; a service's plain outcome, and the code's effect: together the ledger's `accept`.
use mathlib.Core.Path.{refl, sym, ap, ◌∙◌}
use mathlib.Core.Bool.{cond}
use native.Mathlib.Omega.{arith}
use Rattle.ledger.specs.Config.{config_in}
use Rattle.ledger.specs.Ledger.{plain, set_outcome}
use Rattle.ledger.specs.Refusals.{Fields}
use Rattle.ledger.proofs.Theorems.Accepted.{good}
use Rattle.executive.specs.Lent.{over, going}
use Rattle.tables.specs.Shows.{Does, moved}
use Rattle.command.specs.Codes.{view_code}
use Rattle.command.specs.Configured.{of, fits}
use Rattle.command.specs.Refused.{row_is, task_is, semaphore_is, owner_of}
use Rattle.mailboxes.specs.Room.{roomy_stays}
use Rattle.executive.specs.Suits.{frame}
use Rattle.executive.specs.Carried.{meant_of, accept_is, free_is, seven_passed}
use Rattle.executive.proofs.carrying.carried.Goals as goal

pub meant_semaphore-b-requires : goal.meant_semaphore-b-requires
meant_semaphore-b-requires c =
    let b = c.args.lent.now in
    let g = config_in b.config.now in
    let f = c.args.frame.now in
    let o = of (frame b.slotted) in
    let r = row_is f c.args.code c.row-u.result c.requires.0 c.requires.1 c.row-u.ensures in
    let k = good g c.args.me f (omega (arith, c.requires.3.low, o.tasks)) c.requires.3.input in
    let a = task_is g c.args.me r c.meant_task-a.ensures in
    (fits (frame b.slotted), c.requires.3.low, owner_of o c.args.me f _ r k _ a)

pub prepare-requires : goal.prepare-requires
prepare-requires c =
    let b = c.args.lent.now in
    let g = config_in b.config.now in
    let f = c.args.frame.now in
    let o = of (frame b.slotted) in
    let r = row_is f c.args.code c.row-u.result c.requires.0 c.requires.1 c.row-u.ensures in
    let k = good g c.args.me f (omega (arith, c.requires.3.low, o.tasks)) c.requires.3.input in
    let a = task_is g c.args.me r c.meant_task-a.ensures in
    let y = semaphore_is g c.args.me r a (c.meant_semaphore-b.ensures g o) in
    let service = ap (λ (u : Fields). u.service) c.row-u.ensures in
    let m = meant_of o c.args.me f b.tables.now.bytes.now k (seven_passed g c.args.me f c.requires.3.input) c.requires.3.room (view_code c.args.code) _ _ c.requires.1.1 a y in
    λ v. m.asks (sym service ∙ v)

pub serve-requires : goal.serve-requires
serve-requires c =
    let b = c.args.lent.now in
    let g = config_in b.config.now in
    let f = c.args.frame.now in
    let o = of (frame b.slotted) in
    let r = row_is f c.args.code c.row-u.result c.requires.0 c.requires.1 c.row-u.ensures in
    let k = good g c.args.me f (omega (arith, c.requires.3.low, o.tasks)) c.requires.3.input in
    let a = task_is g c.args.me r c.meant_task-a.ensures in
    let y = semaphore_is g c.args.me r a (c.meant_semaphore-b.ensures g o) in
    let p = c.prepare in
    let t = b.tables.now in
    let room = λ (x : _). roomy_stays t.shape t.bytes.now p.new.tables.bytes.now p.ensures.count (c.requires.3.room x) in
    rw p.ensures.does.shape (c.requires.0, c.requires.2, meant_of o c.args.me f p.new.tables.bytes.now k (seven_passed g c.args.me f c.requires.3.input) room (view_code c.args.code) _ _ c.requires.1.1 a y)

pub returns : goal.returns
returns c =
    let b = c.args.lent.now in
    let g = config_in b.config.now in
    let f = c.args.frame.now in
    let o = of (frame b.slotted) in
    let r = row_is f c.args.code c.row-u.result c.requires.0 c.requires.1 c.row-u.ensures in
    let k = good g c.args.me f (omega (arith, c.requires.3.low, o.tasks)) c.requires.3.input in
    let a = task_is g c.args.me r c.meant_task-a.ensures in
    let y = semaphore_is g c.args.me r a (c.meant_semaphore-b.ensures g o) in
    let service = ap (λ (u : Fields). u.service) c.row-u.ensures in
    let code = view_code c.args.code in
    let z = c.row-u.result.service in
    going {R = λ _ s d _ d' _. Does s d d' (λ _ L. cond z (set_outcome c.args.me plain L) L)} (over refl refl refl c.prepare.ensures.does) c.serve.ensures (λ plain_is serves tidy L q acc h. moved (accept_is g c.args.me f L q code _ _ c.requires.1.1 a y z service)
    (serves tidy (cond z (set_outcome c.args.me plain L) L) (free_is g c.args.me f L q code _ _ c.requires.1.1 a y z service acc) (plain_is tidy g L _ _ h)))
