-- `settle`: the first k records are settled.
use native.Mathlib.Omega.{arith}
use Rattle.timers.specs.Loops.{settle_turn, settle_end}
use Rattle.std.proofs.Common.{rules}
use Rattle.timers.proofs.Timers.settle.Goals as goal

pub loop-k-preserved : goal.loop-k-preserved
loop-k-preserved c =
    let a = c.args.self.now in
    let l = c.loop-k in
    let s = c.set_due in
    (settle_turn c.args.back c.args.floor a.count l.k a.rows.now l.self.rows.now l.invariant.0 c.due_at-x.result c.settled.result s.new.self.rows.now (omega arith) c.due_at-x.ensures c.settled.ensures (s.ensures.does a.count (omega arith) (omega arith)), search rules)

pub returns-clause-does : goal.returns-clause-does
returns-clause-does c =
    let a = c.args.self.now in
    let l = c.loop-k in settle_end c.args.back c.args.floor a.count l.k a.rows.now l.self.rows.now l.invariant.0 (omega arith)
