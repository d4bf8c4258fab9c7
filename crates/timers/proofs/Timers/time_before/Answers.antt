-- `time_before`: the time as it is, or 0 when every time that is kept was lowered by it.
use mathlib.Core.Path.{◌∙◌, ap}
use Prim.Native.Nat.{ℕ}
use native.Mathlib.Omega.{arith}
use Rattle.std.proofs.Common.{rules}
use Rattle.rows.specs.Splice.{splice}
use Rattle.rows.specs.Four.{bytes4}
use Rattle.timers.specs.Ends.{back_time, back_same, back_upright}
use Rattle.timers.proofs.Timers.time_before.Goals as goal

pub returns : goal.returns
returns c =
    let a = c.args.self.now in
    let n = a.count in
    let d = a.rows.now in
    let t = c.time-time in
    let s = c.settle.ensures in
    let x = c.settle.new.self.rows.now in
    let p = c.put4 in
    let f = c.floor-floor in
    let q = c.put4-2 in
    let e = q.ensures ∙ ap (λ (x : ℕ). splice p.new.b 6 (bytes4 x)) c.minus.ensures in record {
      means = (
        back_time n t.result f.result d x p.new.b q.new.b (omega arith) (omega arith) t.ensures (omega arith) s.does p.ensures f.ensures e,
        omega arith,
        rw s.lent.2 (back_same n t.result f.result d x p.new.b q.new.b (omega arith) (omega arith) t.ensures (omega arith) s.does p.ensures f.ensures e),
      );
      upright = rw s.lent.2 (back_upright n t.result f.result d x p.new.b q.new.b (omega arith) (omega arith) t.ensures (omega arith) s.does p.ensures f.ensures e);
      lent = search rules;
    }
