-- `has` asks among the records behind the count.
use Rattle.clock.specs.Changed.{has_tells}
use Rattle.clock.proofs.has.Goals as goal

pub returns : goal.returns
returns c =
    let n = c.count-n in
    has_tells c.args.shape c.args.timers.now c.requires n.result n.ensures.1 c.args.task c.args.semaphore c.has.result c.has.ensures
