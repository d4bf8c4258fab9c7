-- The fill, the idle tasks, the outcomes and the ticks, one after the other.
use Rattle.std.proofs.Common.{refl, arith}
use Rattle.configuration.specs.Written.{written}
use Rattle.configuration.proofs.fresh.fresh_tables.Goals as goal

pub returns : goal.returns
returns c =
    let a = c.args in
    written a.shape a.states.now a.tables.now c.requires.0 c.requires.1 _ c.fill.ensures _ (omega arith) c.mark_idle.ensures _ refl _ (omega arith) c.begin.ensures a.ticks
