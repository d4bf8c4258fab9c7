-- `hand_on`: there is none before the first; else the record before keeps the lesser of two times.
use mathlib.Core.Path.{refl, ◌∙◌}
use native.Mathlib.Omega.{arith}
use Rattle.timers.specs.Timers.{records_in}
use Rattle.timers.specs.Ends.{handed_first, handed_done}
use Rattle.timers.proofs.Timers.hand_on.Goals as goal

pub returns-then-k-eq0-clause-does : goal.returns-then-k-eq0-clause-does
returns-then-k-eq0-clause-does c = let a = c.args.self.now in (refl, refl, handed_first c.args.k (records_in a.count a.rows.now) c.if-k-eq0.true)

pub returns-clause-does : goal.returns-clause-does
returns-clause-does c =
    let a = c.args.self.now in
    let k = c.set_due.ensures.does a.count (omega arith) a.room in
    (k.0, k.1, k.2 ∙ handed_done a.count c.args.k c.due_at-x.result c.due_at-y.result c.lesser.result a.rows.now (omega arith) (omega arith) c.due_at-x.ensures c.due_at-y.ensures c.lesser.ensures)
