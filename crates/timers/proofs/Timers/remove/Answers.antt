-- `remove`: what the record says of those before it is handed on, then its row goes.
use Rattle.std.proofs.Common.{rules}
use Rattle.timers.specs.Ends.{remove_done, remove_upright}
use Rattle.timers.proofs.Timers.remove.Goals as goal

pub returns : goal.returns
returns c =
    let a = c.args.self.now in
    let h = c.hand_on.ensures in
    let x = c.hand_on.new.self.rows.now in
    let e = h.lent.2 in
    let r = rw e at (c.remove_at.ensures) in record {
      means = rw e (remove_done a.count c.args.k a.rows.now x c.remove_at.new.buf c.requires h.does r);
      upright = rw e (remove_upright a.count c.args.k a.rows.now x c.remove_at.new.buf c.requires h.does r);
      lent = search rules;
    }
