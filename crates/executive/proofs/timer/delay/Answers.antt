-- `delay`: the numbers are those of the tock value.
use mathlib.Core.Path.{sym}
use Rattle.tocks.specs.Views.{tock_view}
use Rattle.tables.specs.Lent.{by}
use Rattle.executive.proofs.timer.delay.Goals as goal

pub returns : goal.returns
returns c = by c.delay.ensures (λ delays. delays (tock_view c.args.v) (sym c.first_tocks.ensures) (sym c.period_of.ensures))
