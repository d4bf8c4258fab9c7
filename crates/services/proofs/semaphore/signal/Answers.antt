-- `signal` signals nothing where the number names no semaphore.
use Rattle.tables.specs.Lent.{stays}
use Rattle.services.specs.Semaphores.{none_signalled, past_signalled}
use Rattle.services.proofs.semaphore.signal.Goals as goal
use Rattle.services.proofs.semaphore.signal.Goals.{then-b-eq0-via-then-b-eq0, then-b-eq0-via-else-b-eq0+then-b-tables}

pub returns-then-b-eq0 : goal.returns-then-b-eq0
returns-then-b-eq0 c =
    let a = c.args in
    let t = a.tables.now in
    elim c.then-b-eq0.branch [
      | then-b-eq0-via-then-b-eq0 w ↦ let both = none_signalled t.shape t.bytes.now a.b w.if-b-eq0.true in record { does = stays both.0; tells = both.1; task = tt }
      | then-b-eq0-via-else-b-eq0+then-b-tables w ↦ let both = past_signalled t.shape t.bytes.now a.b w.if-b-tables.true in record { does = stays both.0; tells = both.1; task = tt }
    ]
