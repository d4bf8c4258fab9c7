-- The test is the definition's.
use Rattle.stretch.specs.Busiest.{busiest_of}
use Rattle.stretch.proofs.busiest.Goals as goal

pub returns-then-turned_away : goal.returns-then-turned_away
unfolding busiest_of
returns-then-turned_away c = rw (← c.turned_away.ensures, c.if-turned_away.true)

pub returns : goal.returns
unfolding busiest_of
returns c = rw (← c.turned_away.ensures, c.if-turned_away.false, c.over.ensures)
