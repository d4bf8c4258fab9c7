-- The loop keeps `Going`: the input is fed up to the next byte.
use native.Mathlib.Omega.{arith}
use Rattle.mcx11.specs.Contract.{memory}
use Rattle.feeding.specs.Feeds.{lent, feeds_none, feeds_on}
use Rattle.feeding.proofs.feed.Goals as goal

pub loop-r-init : goal.loop-r-init
loop-r-init c =
    let a = c.args in
    let p = c.requires in
    record { from_on = omega arith; up_to = p.0; few = p.1; room = p.2; feeds = feeds_none a.input.now a.reached.next a.reached (lent a.line.now (memory a.config.now a.tables.now a.slots.now a.timers.now a.answer.now) a.out.now) }

pub loop-r-preserved : goal.loop-r-preserved
loop-r-preserved c =
    let i = c.loop-r.invariant in
    let e = c.turn-r.ensures in
    record { from_on = omega (arith, i.from_on, e.0); up_to = e.1; few = e.2; room = omega (arith, i.room, e.0, e.3); feeds = feeds_on _ _ _ _ _ _ _ i.from_on (omega (arith, e.0)) i.feeds e.4 }
