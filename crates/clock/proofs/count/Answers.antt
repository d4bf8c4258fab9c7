-- `count` decodes the first byte, and a shown ledger has as many timers as it counts.
use Rattle.clock.specs.Changed.{count_tells}
use Rattle.clock.proofs.count.Goals as goal

pub returns : goal.returns
returns c =
    let r = c.count_of in
    (r.ensures.1, r.ensures.0, count_tells c.args.shape c.args.timers.now c.requires r.result r.ensures.0)
