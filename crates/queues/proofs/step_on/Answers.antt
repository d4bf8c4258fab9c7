-- `step_on` writes the ring's two bytes.
use native.Mathlib.Omega.{arith}
use lib.ListN.{length-set}
use Rattle.queues.specs.Rings.{rings_in}
use Rattle.queues.proofs.step_on.Goals as goal

pub overflow_mul-at : goal.overflow_mul-at
overflow_mul-at c = omega (arith, rings_in c.args.tables.now.fits c.args.q c.requires)

pub overflow_add-at : goal.overflow_add-at
overflow_add-at c = omega (arith, rings_in c.args.tables.now.fits c.args.q c.requires)

pub bounds-tables-at : goal.bounds-tables-at
bounds-tables-at c = omega (arith, rings_in c.args.tables.now.fits c.args.q c.requires)

pub overflow_add-tables : goal.overflow_add-tables
overflow_add-tables c = omega (arith, rings_in c.args.tables.now.fits c.args.q c.requires)

pub bounds-tables-at-2 : goal.bounds-tables-at-2
bounds-tables-at-2 c = simp length-set (omega (arith, rings_in c.args.tables.now.fits c.args.q c.requires))
