-- `start`: a shown ledger with room for a timer has a record left for it; the records are lent with that one, and it is counted.
use Prim.Native.Nat.{◌+◌}
use mathlib.Core.Path.{refl}
use native.Mathlib.Omega.{arith}
use Rattle.tables.specs.Shows.{loosely}
use Rattle.clock.specs.Changed.{start_does}
use Rattle.clock.proofs.start.Goals as goal

pub returns-then-n-shape : goal.returns-then-n-shape
returns-then-n-shape c =
    let n = c.count-n in
    λ v el ep tidy g L d z room h. absurd (omega (arith, c.if-n-shape.true, n.ensures.2 g L d z (loosely h), h.of.timers))

pub returns : goal.returns
returns c =
    let a = c.args in
    let n = c.count-n in
    let i = c.insert in
    λ v el ep tidy g L d z room h. start_does a.shape a.timers.now c.requires n.result n.ensures.1 i.new.rows c.timers-1.given.1 (n.result + 1) (n.result + 1) (omega (arith, c.if-n-shape.false)) refl i.ensures.upright a.task a.semaphore a.left a.period i.ensures.means tidy g L d z v el ep h
