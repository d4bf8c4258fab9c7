-- `running` is the lowest row without a block, if that is a task's.
use native.Mathlib.Omega.{arith}
use Rattle.tables.specs.Layout.{few}
use Rattle.tables.specs.Running.{runs, none_runs}
use Rattle.tables.proofs.tasks.running.Goals as goal

pub returns-then-i-shape : goal.returns-then-i-shape
returns-then-i-shape c =
    (omega arith, runs c.args.shape c.args.tables.now c.requires c.in-Some.i c.in-Some.ensures.0 c.if-i-shape.true (few c.requires))

pub returns-else-i-shape : goal.returns-else-i-shape
returns-else-i-shape c =
    (omega arith, none_runs c.args.shape c.args.tables.now c.requires c.in-Some.i c.in-Some.ensures.0 c.if-i-shape.false)

pub returns-in_default : goal.returns-in_default
returns-in_default c = (omega arith, none_runs c.args.shape c.args.tables.now c.requires 128 c.in_default.ensures (omega (arith, few c.requires)))
