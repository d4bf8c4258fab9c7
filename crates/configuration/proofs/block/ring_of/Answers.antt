-- The block holds the pair of the queue, and the pairs before it, whose bytes are what they take.
use Rattle.std.proofs.Common.{refl}
use Rattle.configuration.specs.Ring.{ring_is}
use Rattle.configuration.proofs.block.ring_of.Goals as goal

pub returns : goal.returns
returns c =
    let a = c.args in
    ring_is a.frame.now a.shape c.requires.0 c.requires.1 a.q c.requires.2 c.requires.3 _ _ _ refl refl c.taken.ensures
