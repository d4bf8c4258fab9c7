-- `set_due` is one store of four bytes.
use Rattle.timers.specs.Records.{due_set}
use Rattle.timers.proofs.Timers.set_due.Goals as goal

pub returns-clause-does : goal.returns-clause-does
returns-clause-does c = λ n h room. due_set n c.args.self.now.rows.now room c.args.x c.ranges.x.fits c.args.k c.put4.new.b h c.put4.ensures
