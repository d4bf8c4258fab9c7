-- `place` goes from the last record back: all from record k on are due later than the time, and none before the first of them.
use mathlib.Core.Path.{◌≡◌}
use Prim.Native.Nat.{suc, ◌+◌, ◌-◌}
use native.Mathlib.Omega.{arith}
use Rattle.timers.specs.Loops.{place_start, place_on, place_here}
use Rattle.timers.proofs.Timers.place.Goals as goal

pub loop-k-init : goal.loop-k-init
loop-k-init c = let a = c.args.self.now in (place_start (suc c.args.due) a.count a.rows.now, place_start _ a.count a.rows.now)

pub returns-then-time-due : goal.returns-then-time-due
returns-then-time-due c =
    let a = c.args.self.now in
    let l = c.loop-k in
    let x = c.due_at-time in
    let s : l.k - 1 + 1 ≡ suc (l.k - 1) = omega arith in
    let t : suc (l.k - 1) ≡ l.k = omega arith in
    (omega arith, rw s (place_here a.count (l.k - 1) x.result a.rows.now (omega arith) x.ensures c.args.due (omega arith)), rw (s, t) l.invariant.0, rw (s, t) l.invariant.1)

pub loop-k-preserved : goal.loop-k-preserved
loop-k-preserved c =
    let a = c.args.self.now in
    let l = c.loop-k in
    let x = c.due_at-time in
    let y = suc c.args.due in
    let t : suc (l.k - 1) ≡ l.k = omega arith in
    let on = place_on a.count (l.k - 1) x.result a.rows.now (omega arith) x.ensures in
    (on y y (omega arith) (omega arith) (rw t l.invariant.0), on l.first c.lesser-first.result (omega arith) (omega arith) (rw t l.invariant.1))
