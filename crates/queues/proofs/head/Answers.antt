-- `head` decodes one of the ring's two bytes.
use native.Mathlib.Omega.{arith}
use mathlib.Core.Path.{ap, ◌∙◌}
use Rattle.tables.specs.Decode.{head_of}
use Rattle.queues.specs.Rings.{head_in, rings_in, head_byte}
use Rattle.queues.proofs.head.Goals as goal

pub overflow_mul-at : goal.overflow_mul-at
overflow_mul-at c = omega (arith, rings_in c.args.tables.now.fits c.args.q c.requires)

pub overflow_add-at : goal.overflow_add-at
overflow_add-at c = omega (arith, rings_in c.args.tables.now.fits c.args.q c.requires)

pub bounds-tables-at : goal.bounds-tables-at
bounds-tables-at c = omega (arith, rings_in c.args.tables.now.fits c.args.q c.requires)

pub returns : goal.returns
unfolding head_in
returns c =
    let a = c.args in
    c.head_of.ensures ∙ ap (head_of a.ring.depth) (head_byte c.args.tables.now.fits a.q c.requires a.tables.now.bytes.now)
