-- `put_in`: the row goes in behind the clock's row.
use native.Mathlib.Omega.{arith}
use Rattle.timers.specs.Records.{record_inserted}
use Rattle.timers.proofs.Timers.put_in.Goals as goal

pub returns-clause-does : goal.returns-clause-does
returns-clause-does c =
    let a = c.args in
    let b = a.self.now in
    let i = c.insert_at in
    record_inserted b.count a.at a.t.task a.t.semaphore a.due a.t.period b.rows.now i.new.buf c.row_of.result c.ranges.due.fits (omega arith) c.row_of.ensures i.ensures
