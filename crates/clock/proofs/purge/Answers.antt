-- `purge` lends the records, and stores how many are left.
use mathlib.Core.Path.{refl}
use native.Mathlib.Omega.{arith}
use Rattle.clock.specs.Changed.{purge_does}
use Rattle.clock.proofs.purge.Goals as goal

pub returns : goal.returns
returns c =
    let a = c.args in
    let n = c.count-n in
    let p = c.purge-left in
    purge_does a.shape a.timers.now c.requires n.result n.ensures.1 p.new.rows c.timers-1.given.1 p.result p.result (omega (arith, p.ensures.means.0, n.ensures.0)) refl p.ensures.upright a.task _ _ p.ensures.means.1
