-- `lower`: once no record keeps a time before the floor, a lower floor says the same.
use native.Mathlib.Omega.{arith}
use Rattle.std.proofs.Common.{rules}
use Rattle.timers.specs.Ends.{lower_done, lower_upright}
use Rattle.timers.proofs.Timers.lower.Goals as goal

pub returns : goal.returns
returns c =
    let a = c.args.self.now in
    let g = c.floor-floor in
    let s = c.settle.ensures in
    let x = c.settle.new.self.rows.now in
    let p = c.put4 in record {
      means = lower_done a.count c.args.due g.result a.rows.now x p.new.b (omega arith) c.ranges.due.fits g.ensures (omega (arith, c.requires, g.ensures)) s.does p.ensures;
      upright = rw s.lent.2 (lower_upright a.count c.args.due g.result a.rows.now x p.new.b (omega arith) c.ranges.due.fits g.ensures (omega (arith, c.requires, g.ensures)) s.does p.ensures);
      lent = search rules;
    }
