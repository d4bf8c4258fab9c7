-- `start`: the numbers are those of the tock value.
use mathlib.Core.Path.{sym}
use Rattle.tocks.specs.Views.{tock_view}
use Rattle.executive.proofs.timer.start.Goals as goal

pub returns : goal.returns
returns c = c.start.ensures (tock_view c.args.v) (sym c.first_tocks.ensures) (sym c.period_of.ensures)
