-- `not_full` names a semaphore of the queues.
use native.Mathlib.Omega.{arith}
use mathlib.Core.Path.{refl}
use Rattle.queues.specs.Waits.{not_full_in}
use Rattle.queues.proofs.reading.not_full.Goals as goal

pub overflow_add-result : goal.overflow_add-result
overflow_add-result c = omega (arith, not_full_in c.requires.0 c.args.q c.requires.1)

pub overflow_add-result-2 : goal.overflow_add-result-2
overflow_add-result-2 c = omega (arith, not_full_in c.requires.0 c.args.q c.requires.1)

pub overflow_cast-result-2 : goal.overflow_cast-result-2
overflow_cast-result-2 c = omega (arith, not_full_in c.requires.0 c.args.q c.requires.1)

pub returns : goal.returns
returns c = let f = not_full_in c.requires.0 c.args.q c.requires.1 in (refl, f.0, f.1)
