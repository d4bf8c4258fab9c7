-- `take_due` lends the records, and stores how many there are then.
use native.Mathlib.Omega.{arith}
use mathlib.Core.Path.{refl, ap}
use Rattle.timers.specs.Timers.{due_in}
use Rattle.clock.specs.Held.{records_in_lem, lent}
use Rattle.clock.specs.Changed.{due_tells, due_fewer, due_does}
use Rattle.clock.proofs.take_due.Goals as goal

pub take_due-due-requires : goal.take_due-due-requires
take_due-due-requires c =
    let n = c.count-n in
    (records_in_lem c.args.timers.now c.requires.0 n.result n.ensures.0, omega (arith, c.requires.1, ap due_in (lent c.args.shape c.args.timers.now c.requires.0 n.result n.ensures.1)))

pub returns : goal.returns
returns c = let n = c.count-n in
    let p = c.take_due-due in
    let k = c.timers-1.given.1 in
    let h = c.args.shape in
    let w = c.args.timers.now in
    let f = p.result in
    let u = p.ensures.means in record {
      fewer = due_fewer h w c.requires.0 n.result n.ensures.1 p.new.rows k f.count f.count (omega (arith, u.0, n.ensures.0)) refl p.ensures.upright u.2 c.requires.1;
      tells = due_tells h w c.requires.0 n.result n.ensures.1 f.semaphore u.1;
      does = due_does h w c.requires.0 n.result n.ensures.1 p.new.rows k f.count f.count (omega (arith, u.0, n.ensures.0)) refl p.ensures.upright u.2;
    }
