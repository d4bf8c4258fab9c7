-- `pass`: before the floor none is due; from there on those before the place are, and where there is none, the floor goes up.
use mathlib.Core.Path.{◌≡◌, refl}
use mathlib.Core.List.{map}
use native.Mathlib.Omega.{arith}
use Prim.Native.Nat.{◌+◌, ◌≤◌}
use Rattle.rows.specs.Four.{le4}
use Rattle.timers.specs.Timers.{timers_in, tocked, StaysUpright}
use Rattle.timers.specs.Lent.{held}
use Rattle.timers.specs.Tocks.{pass_tocks, pass_none, pass_some, pass_quiet, pass_upright, quiet_upright}
use Rattle.std.proofs.Common.{rules}
use Rattle.timers.proofs.Timers.pass.Goals as goal
use Rattle.timers.proofs.Timers.pass.Goals.{After-put4}

-- once the time is stored
tocks_on : (c : After-put4) → timers_in c.args.self.now.count c.put4.new.b ≡ map tocked (held c.args.self.now)
tocks_on c =
    let a = c.args.self.now in
    let t = c.time_before-time in
    let before = rw t.ensures.lent.2 at (t.ensures.means) in
    pass_tocks a.count t.result (t.result + 1) a.rows.now t.new.self.rows.now c.put4.new.b (omega arith) before.2 before.0 refl before.1 c.put4.ensures

still_upright : (c : After-put4) → StaysUpright c.args.self.now.count c.args.self.now.rows.now c.args.self.now.count c.put4.new.b
still_upright c u =
    let a = c.args.self.now in
    let t = c.time_before-time in
    let e = t.ensures.lent.2 in
    let before = rw e at (t.ensures.means) in
    pass_upright a.count t.result (t.result + 1) a.rows.now t.new.self.rows.now c.put4.new.b (omega arith) before.2 before.0 refl before.1 c.put4.ensures (rw e at (t.ensures.upright u))

pub returns-then-time-floor : goal.returns-then-time-floor
returns-then-time-floor c =
    let a = c.args.self.now in
    let t = c.time_before-time in
    let e = t.ensures.lent.2 in
    let before = rw e at (t.ensures.means) in
    let p = c.put4 in
    let s = (goal.at.returns-then-time-floor c).After-put4 in record {
      means = rw e (omega arith, pass_none a.count t.result (t.result + 1) a.rows.now t.new.self.rows.now p.new.b (omega arith) before.2 before.0 refl before.1 p.ensures (omega (arith, c.if-time-floor.true, c.floor.ensures)), tocks_on s);
      upright = rw e (still_upright s);
      lent = search rules;
    }

pub returns-then-due-eq0 : goal.returns-then-due-eq0
returns-then-due-eq0 c =
    let a = c.args.self.now in
    let t = c.time_before-time in
    let e = t.ensures.lent.2 in
    let before = rw e at (t.ensures.means) in
    let p = c.put4 in
    let f = c.place-due in
    let here = rw e at (f.ensures) in
    let q = c.put4-then-due-eq0 in
    let s = (goal.at.returns-then-due-eq0 c).After-put4 in
    let past : le4 p.new.b 6 ≤ t.result + 1 = omega (arith, c.if-time-floor.false, c.floor.ensures) in record {
      means = rw e (pass_quiet a.count t.result (t.result + 1) a.rows.now t.new.self.rows.now p.new.b (omega arith) before.2 before.0 refl before.1 p.ensures f.result.at f.result.first q.new.b c.if-due-eq0.true past here (omega arith) (omega arith) q.ensures);
      upright = rw e (λ u. quiet_upright a.count (t.result + 1) f.result.at f.result.first p.new.b q.new.b (omega arith) c.if-due-eq0.true here (omega arith) q.ensures (still_upright s u));
      lent = search rules;
    }

pub returns-else-due-eq0 : goal.returns-else-due-eq0
returns-else-due-eq0 c =
    let a = c.args.self.now in
    let t = c.time_before-time in
    let e = t.ensures.lent.2 in
    let before = rw e at (t.ensures.means) in
    let p = c.put4 in
    let f = c.place-due in
    let here = rw e at (f.ensures) in
    let s = (goal.at.returns-else-due-eq0 c).After-put4 in record {
      means = rw e (here.0, pass_some a.count t.result (t.result + 1) a.rows.now t.new.self.rows.now p.new.b (omega arith) before.2 before.0 refl before.1 p.ensures f.result.at f.result.first (omega (arith, c.if-time-floor.false, c.floor.ensures)) here, tocks_on s);
      upright = rw e (still_upright s);
      lent = search rules;
    }
