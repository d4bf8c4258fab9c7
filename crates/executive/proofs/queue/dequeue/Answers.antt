-- `dequeue`: the ring is the queue's.
use mathlib.Core.Path.{refl}
use Rattle.ledger.specs.Config.{config_in}
use Rattle.tables.specs.Lent.{by}
use Rattle.executive.specs.Lent.{over}
use Rattle.executive.proofs.queue.dequeue.Goals as goal

pub returns : goal.returns
returns c = over refl refl refl (by c.dequeue.ensures (λ takes tidy L w h. takes tidy (config_in c.args.lent.now.config.now) L w c.ring-r.ensures.0 h))
