-- A queue that holds something gives it; an empty one has the semaphore not-empty.
use Rattle.tables.specs.Layout.{fits_end}
use Rattle.queues.specs.Waits.{take_goes, take_waits}
use Rattle.queues.proofs.reading.take_waits.Goals as goal

pub returns-then-count-ne0 : goal.returns-then-count-ne0
returns-then-count-ne0 c =
    let a = c.args in
    take_goes a.shape a.tables.now a.q c.requires.1 a.ring _ c.count.ensures c.if-count-ne0.true

pub not_full-requires : goal.not_full-requires
not_full-requires c = (fits_end c.requires.0, c.requires.1)

pub returns : goal.returns
returns c =
    let a = c.args in
    take_waits a.shape a.tables.now a.q c.requires.1 a.ring _ c.count.ensures _ c.not_full.ensures.0 c.if-count-ne0.false _ c.is_waiting.ensures
