-- `pass` lends the records, and the count stays.
use native.Mathlib.Omega.{arith}
use Rattle.clock.specs.Changed.{pass_due, pass_does}
use Rattle.clock.proofs.pass.Goals as goal

pub returns : goal.returns
returns c =
    let n = c.count-n in
    let p = c.pass in
    let k = c.timers-1.given.1 in
    (omega (arith, p.ensures.means.0, n.ensures.0), pass_due c.args.shape c.args.timers.now c.requires n.result n.ensures.1 p.new.rows k p.result p.ensures.means.1, pass_does c.args.shape c.args.timers.now c.requires n.result n.ensures.1 p.new.rows k p.ensures.means.2 p.ensures.upright)
