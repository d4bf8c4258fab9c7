-- `ring`: the ring of the block lies within the tables.
use mathlib.Core.Path.{subst, sym}
use native.Mathlib.Omega.{arith}
use Rattle.queues.specs.Rings.{RingFits, ring_fits}
use Rattle.ledger.specs.Config.{config_in}
use Rattle.command.specs.Configured.{bytes, of}
use Rattle.executive.proofs.queue.ring.Goals as goal

pub ring_of-requires : goal.ring_of-requires
ring_of-requires c = (bytes c.requires.0, of c.requires.0, c.requires.1.0, c.requires.1.1)

pub returns : goal.returns
returns c = let e = c.ring_of.ensures in let o = of c.requires.0 in (e, subst (RingFits c.args.shape) (sym e) (ring_fits (config_in c.args.config.now) c.args.shape o c.args.q (c.requires.1.0, omega (arith, c.requires.1, o.queues))))
