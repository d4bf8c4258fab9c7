-- `tick` advances the clock, then takes each due timer and signals for it: after k turns k of them have been drained.
use native.Mathlib.Omega.{arith}
use Rattle.clock.specs.Tocks.{no_turn, turn_done, ticked}
use Rattle.tables.specs.Lent.{stays, going}
use Rattle.services.proofs.timer.tick.Goals as goal

pub loop-init : goal.loop-init
loop-init c = let a = c.advance-n.ensures in (rw a.shape (omega (arith, a.does.enough)), stays (no_turn _ _ _))

pub loop-preserved : goal.loop-preserved
loop-preserved c =
    let l = c.loop in
    let t = c.take_due-b in
    let s = c.signal.ensures.does in
    let k = rw l.invariant.1.shape at (t.ensures) in (
      rw s.shape (omega (arith, t.ensures.fewer, l.invariant.0)),
      going l.invariant.1 s (λ turned signals. turn_done _ _ _ _ l.timers _ t.new.timers l.counter t.result turned k.tells k.does signals),
    )

pub returns : goal.returns
returns c =
    let a = c.advance-n in
    let l = c.loop in
    let t = c.args.tables.now in
    going a.ensures l.invariant.1
    (λ advanced turned. ticked t.shape t.bytes.now c.args.timers.now _ a.new.timers _ l.timers a.result l.counter advanced turned (omega (arith, c.loop-test.false, l.auto.counter-end)))
