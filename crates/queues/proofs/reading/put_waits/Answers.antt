-- A queue that is not full takes it; a full one has the semaphore not_full.
use Rattle.tables.specs.Layout.{fits_end}
use Rattle.queues.specs.Waits.{put_goes, put_waits}
use Rattle.queues.proofs.reading.put_waits.Goals as goal

pub returns-then-count-ring : goal.returns-then-count-ring
returns-then-count-ring c =
    let a = c.args in
    put_goes a.shape a.tables.now a.q c.requires.1 a.ring _ c.count.ensures c.if-count-ring.true

pub not_full-requires : goal.not_full-requires
not_full-requires c = (fits_end c.requires.0, c.requires.1)

pub returns : goal.returns
returns c =
    let a = c.args in
    put_waits a.shape a.tables.now a.q c.requires.1 a.ring _ c.count.ensures _ c.not_full.ensures.0 c.if-count-ring.false _ c.is_waiting.ensures
