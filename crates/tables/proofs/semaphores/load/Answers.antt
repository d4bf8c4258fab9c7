-- `load` decodes one byte, which lies within the tables; who is waiting is one of the tasks.
use Rattle.tables.specs.Layout.{semaphore_in}
use native.Mathlib.Omega.{arith}
use Prim.Native.Nat.{◌+◌, ◌-◌}
use lib.ListN.{get_or}
use Rattle.tables.specs.Semaphores.{semaphore_told}
use Rattle.tables.specs.Encoded.{state_waiter}
use Rattle.tables.proofs.semaphores.load.Goals as goal

pub overflow_add-at : goal.overflow_add-at
overflow_add-at c = omega (arith, semaphore_in c.requires.0 c.args.b c.requires.1)

pub bounds-tables-at : goal.bounds-tables-at
bounds-tables-at c = semaphore_in c.requires.0 c.args.b c.requires.1

pub returns : goal.returns
returns c = let a = c.args in
    let h = a.shape in
    record { tells = semaphore_told c.requires.0 a.tables.now a.b c.requires.1 _ c.state_of.ensures; waiter = rw c.state_of.ensures (state_waiter h.tasks (get_or a.tables.now (h.semaphoreat + (a.b - 1)) 0)) }
