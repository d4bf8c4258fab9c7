-- `put_again`: the first timer is due, so its new place is behind it; its row goes there, and the rows between move.
use mathlib.Core.Path.{refl}
use Prim.Native.Nat.{◌+◌}
use native.Mathlib.Omega.{arith}
use Rattle.timers.specs.Tocks.{again_behind, again_done, again_upright}
use Rattle.std.proofs.Common.{rules}
use Rattle.timers.proofs.Timers.put_again.Goals as goal

pub replace_at-requires : goal.replace_at-requires
replace_at-requires c =
    let a = c.args.self.now in
    let p = c.args.t.period in
    let t = c.time_before in
    let s = c.place-at in
    let e = t.ensures.lent.2 in
    let before = rw e at (t.ensures.means) in
    let here = rw e at (s.ensures) in
    (again_behind a.count p t.result (t.result + p) a.rows.now t.new.self.rows.now c.requires before.2 before.0 refl s.result.at here.2, omega (arith, s.ensures.0), omega arith, search rules)

pub returns : goal.returns
returns c =
    let a = c.args.self.now in
    let r = c.args.t in
    let t = c.time_before in
    let s = c.place-at in
    let m = c.replace_at in
    let e = t.ensures.lent.2 in
    let before = rw e at (t.ensures.means) in
    let here = rw e at (s.ensures) in
    let moved = rw e at (m.ensures) in record {
      means = rw e (again_done a.count r.period t.result (t.result + r.period) a.rows.now t.new.self.rows.now c.requires before.2 before.0 refl
          r.task r.semaphore r.period m.new.buf c.row_of.result before.1 (omega arith) c.row_of.ensures s.result.at here.0 here.1 here.2 moved);
      upright = rw e (λ u. again_upright a.count r.period t.result (t.result + r.period) a.rows.now t.new.self.rows.now c.requires before.2 before.0 refl
          r.task r.semaphore r.period m.new.buf c.row_of.result before.1 (omega arith) c.row_of.ensures s.result.at here.0 here.1 here.2 moved (rw e at (t.ensures.upright u)));
      lent = search rules;
    }
