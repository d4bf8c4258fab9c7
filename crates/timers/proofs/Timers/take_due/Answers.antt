-- `take_due`: the first of timers in order is due if any is. It goes out, or in again with its period left if it is cyclic.
use native.Mathlib.Omega.{arith}
use Rattle.timers.specs.Tocks.{first_semaphore_lem, take_once, take_again}
use Rattle.std.proofs.Common.{rules}
use Rattle.timers.proofs.Timers.take_due.Goals as goal

pub returns-then-first-eq0 : goal.returns-then-first-eq0
returns-then-first-eq0 c =
    let a = c.args.self.now in
    let d = a.rows.now in
    let r = c.remove in
    let e = r.ensures.lent.2 in record {
      means = (omega arith, first_semaphore_lem a.count d c.requires, rw e (take_once a.count d c.requires c.period_at.result r.new.self.rows.now c.period_at.ensures c.if-first-eq0.true (rw e at (r.ensures.means))));
      upright = r.ensures.upright;
      lent = search rules;
    }

pub returns-else-first-eq0 : goal.returns-else-first-eq0
returns-else-first-eq0 c =
    let a = c.args.self.now in
    let d = a.rows.now in
    let p = c.put_again in
    let e = p.ensures.lent.2 in record {
      means = (omega arith, first_semaphore_lem a.count d c.requires, rw e (take_again a.count d c.requires c.period_at.result p.new.self.rows.now c.period_at.ensures c.if-first-eq0.false (rw e at (p.ensures.means))));
      upright = p.ensures.upright;
      lent = search rules;
    }
