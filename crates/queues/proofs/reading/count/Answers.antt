-- `count` decodes one of the ring's two bytes.
use native.Mathlib.Omega.{arith}
use mathlib.Core.Path.{ap, ◌∙◌}
use Rattle.tables.specs.Decode.{count_of}
use Rattle.queues.specs.Rings.{count_in, rings_in, count_byte}
use Rattle.queues.proofs.reading.count.Goals as goal

pub overflow_mul-at : goal.overflow_mul-at
overflow_mul-at c = omega (arith, rings_in c.requires.0 c.args.q c.requires.1)

pub overflow_add-at : goal.overflow_add-at
overflow_add-at c = omega (arith, rings_in c.requires.0 c.args.q c.requires.1)

pub overflow_add-at-2 : goal.overflow_add-at-2
overflow_add-at-2 c = omega (arith, rings_in c.requires.0 c.args.q c.requires.1)

pub bounds-tables-at : goal.bounds-tables-at
bounds-tables-at c = omega (arith, rings_in c.requires.0 c.args.q c.requires.1)

pub returns : goal.returns
unfolding count_in
returns c =
    let a = c.args in
    c.count_of.ensures.0 ∙ ap (count_of a.ring.depth) (count_byte c.requires.0 a.q c.requires.1 a.tables.now)
