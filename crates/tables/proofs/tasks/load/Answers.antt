use Rattle.tables.specs.Shows.{record_made}
use Rattle.tables.proofs.tasks.load.Goals as goal

pub returns : goal.returns
returns c =
    let a = c.args in
    (record_made c.requires.0 a.tables.now a.t c.requires.1 _ _ _ c.load-blocks.ensures c.outcome_in-outcome.ensures c.request_in-request.ensures.0, c.request_in-request.ensures.1)
