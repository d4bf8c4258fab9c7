-- `drop_messages` drops one message a turn: to drop the rest comes to the same as to drop all, until the mailbox is empty or as many turns are done as there are messages.
use Rattle.tables.specs.Lent.{stays, by, going, telling}
use Rattle.services.specs.Dropped.{none_dropped, one_dropped, all_dropped, all_counted}
use Rattle.services.proofs.message.drop_messages.Goals as goal

pub loop-init : goal.loop-init
loop-init c = let t = c.args.tables.now in stays (none_dropped t.shape c.args.t t.bytes.now c.requires)

pub returns-then-not-drop_first : goal.returns-then-not-drop_first
returns-then-not-drop_first c =
    let t = c.args.tables.now in
    let l = c.loop in
    let f = c.drop_first in
    going l.invariant f.ensures.does (λ rest first. all_dropped t.shape c.args.t t.bytes.now _ t.shape.messages l.counter rest _ f.result (first, telling l.invariant f.ensures.tells) c.if-not-drop_first.true)

pub loop-preserved : goal.loop-preserved
loop-preserved c =
    let t = c.args.tables.now in
    let l = c.loop in
    let f = c.drop_first in
    going l.invariant f.ensures.does (λ rest first. one_dropped t.shape c.args.t t.bytes.now _ t.shape.messages l.counter rest _ f.result (first, telling l.invariant f.ensures.tells) c.if-not-drop_first.false)

pub returns : goal.returns
returns c =
    let t = c.args.tables.now in
    let l = c.loop in
    by l.invariant (λ rest. all_counted t.shape c.args.t t.bytes.now _ t.shape.messages l.counter rest c.loop-test.false)
