-- `insert`: before the floor the timer goes in first, else at the place that the search gave.
use mathlib.Core.Path.{refl, sym, ◌∙◌}
use native.Mathlib.Omega.{arith}
use Prim.Native.Nat.{◌+◌, ◌≤◌}
use Rattle.std.proofs.Common.{rules}
use Rattle.rows.specs.Four.{le4}
use Rattle.timers.specs.Ends.{first_done, first_upright, insert_done, insert_upright}
use Rattle.timers.proofs.Timers.insert.Goals as goal

pub lower-requires : goal.lower-requires
lower-requires c = omega (arith, c.if-due-floor.true, c.floor.ensures)

pub returns-then-due-floor : goal.returns-then-due-floor
returns-then-due-floor c =
    let a = c.args in
    let b = a.self.now in
    let r = a.t in
    let t = c.time_before in
    let w = c.lower in
    let x = w.new.self in
    let p = c.put_in.ensures in
    let y = c.put_in.new.self.rows.now in
    let e = t.ensures.lent.2 in
    let g = w.ensures.lent.2 ∙ e in
    let low = rw e at (w.ensures.means) in
    let same = rw e at (t.ensures.means) in
    let put = rw g at (p.does) in record {
      means = rw (p.lent.2, g) (first_done b.count r.task r.semaphore r.period (t.result + a.left) _ x.rows.now y low.1 low.2 put (omega arith)
          a.left t.result b.rows.now (low.3 ∙ same.2) (same.0 ∙ sym low.0) refl);
      upright = rw (p.lent.2, g) (λ u. first_upright b.count r.task r.semaphore r.period (t.result + a.left) _ x.rows.now y low.1 low.2 put (omega arith) (omega arith) (rw g at (w.ensures.upright (t.ensures.upright u))));
      lent = search rules;
    }

pub returns : goal.returns
returns c =
    let a = c.args in
    let b = a.self.now in
    let r = a.t in
    let t = c.time_before in
    let x = t.new.self.rows.now in
    let p = c.put_in-2.ensures in
    let y = c.put_in-2.new.self.rows.now in
    let at = c.place-at.result.at in
    let e = t.ensures.lent.2 in
    let same = rw e at (t.ensures.means) in
    let s = rw e at (c.place-at.ensures) in
    let put = rw e at (p.does) in
    let low : le4 x 6 ≤ t.result + a.left = omega (arith, c.if-due-floor.false, c.floor.ensures) in record {
      means = rw (p.lent.2, e) (insert_done b.count at r.task r.semaphore a.left r.period t.result (t.result + a.left) b.rows.now x y same.2 same.0 refl low s.0 s.1 s.2 put);
      upright = rw (p.lent.2, e) (λ u. insert_upright b.count at r.task r.semaphore r.period (t.result + a.left) x y low s.0 s.1 s.2 put (rw e at (t.ensures.upright u)));
      lent = search rules;
    }
