-- The crate's functions in the world of a build, which is what an environment is made of (the kit's prog.Linked): its table of functions, and
-- that a world with this table, and with what its functions call of other crates (`Below`), has the code of those that are called from outside, whatever else is in it.
use prog.Linked.{Tree, World, Holds, in_world}
use prog.LinkedThreads.{HasT}
use mathlib.Core.Bool.{true}
use Rattle.tables.proofs.TheLink as link
use Rattle.tables.proofs.blocks.is_idle.Symbol as blocks_is_idle
use Rattle.tables.proofs.blocks.load.Symbol as blocks_load
use Rattle.tables.proofs.counts.count_of.Symbol as counts_count_of
use Rattle.tables.proofs.lent.Tables.blocks.Symbol as lent_Tables_blocks
use Rattle.tables.proofs.lent.Tables.copy_waiting.Symbol as lent_Tables_copy_waiting
use Rattle.tables.proofs.lent.Tables.is_waiting.Symbol as lent_Tables_is_waiting
use Rattle.tables.proofs.lent.Tables.running.Symbol as lent_Tables_running
use Rattle.tables.proofs.lent.Tables.semaphore.Symbol as lent_Tables_semaphore
use Rattle.tables.proofs.lent.Tables.set_block.Symbol as lent_Tables_set_block
use Rattle.tables.proofs.lent.Tables.set_blocks.Symbol as lent_Tables_set_blocks
use Rattle.tables.proofs.lent.Tables.set_enqueue.Symbol as lent_Tables_set_enqueue
use Rattle.tables.proofs.lent.Tables.set_outcome.Symbol as lent_Tables_set_outcome
use Rattle.tables.proofs.lent.Tables.set_request.Symbol as lent_Tables_set_request
use Rattle.tables.proofs.lent.Tables.set_semaphore.Symbol as lent_Tables_set_semaphore
use Rattle.tables.proofs.lent.Tables.task.Symbol as lent_Tables_task
use Rattle.tables.proofs.lent.Tables.withdraw.Symbol as lent_Tables_withdraw
use Rattle.tables.proofs.planes.put_bit.Symbol as planes_put_bit
use Rattle.tables.proofs.semaphores.is_waiting.Symbol as semaphores_is_waiting
use Rattle.tables.proofs.semaphores.load.Symbol as semaphores_load
use Rattle.tables.proofs.tasks.load.Symbol as tasks_load
use Rattle.tables.proofs.tasks.running.Symbol as tasks_running

pub the_table : Tree
the_table = link.table

abbrev pub Below : World → Type 0
Below = link.Below

pub blocks_is_idle_linked : (W : World) → Holds W "tables" the_table → Below W → HasT (in_world W) true blocks_is_idle.code
unfolding the_table
blocks_is_idle_linked = link.linked-tables::blocks::is_idle

pub blocks_load_linked : (W : World) → Holds W "tables" the_table → Below W → HasT (in_world W) true blocks_load.code
unfolding the_table
blocks_load_linked = link.linked-tables::blocks::load

pub counts_count_of_linked : (W : World) → Holds W "tables" the_table → Below W → HasT (in_world W) true counts_count_of.code
unfolding the_table
counts_count_of_linked = link.linked-tables::counts::count_of

pub lent_Tables_blocks_linked : (W : World) → Holds W "tables" the_table → Below W → HasT (in_world W) true lent_Tables_blocks.code
unfolding the_table
lent_Tables_blocks_linked = link.linked-tables::lent::Tables::blocks

pub lent_Tables_copy_waiting_linked : (W : World) → Holds W "tables" the_table → Below W → HasT (in_world W) true lent_Tables_copy_waiting.code
unfolding the_table
lent_Tables_copy_waiting_linked = link.linked-tables::lent::Tables::copy_waiting

pub lent_Tables_is_waiting_linked : (W : World) → Holds W "tables" the_table → Below W → HasT (in_world W) true lent_Tables_is_waiting.code
unfolding the_table
lent_Tables_is_waiting_linked = link.linked-tables::lent::Tables::is_waiting

pub lent_Tables_running_linked : (W : World) → Holds W "tables" the_table → Below W → HasT (in_world W) true lent_Tables_running.code
unfolding the_table
lent_Tables_running_linked = link.linked-tables::lent::Tables::running

pub lent_Tables_semaphore_linked : (W : World) → Holds W "tables" the_table → Below W → HasT (in_world W) true lent_Tables_semaphore.code
unfolding the_table
lent_Tables_semaphore_linked = link.linked-tables::lent::Tables::semaphore

pub lent_Tables_set_block_linked : (W : World) → Holds W "tables" the_table → Below W → HasT (in_world W) true lent_Tables_set_block.code
unfolding the_table
lent_Tables_set_block_linked = link.linked-tables::lent::Tables::set_block

pub lent_Tables_set_blocks_linked : (W : World) → Holds W "tables" the_table → Below W → HasT (in_world W) true lent_Tables_set_blocks.code
unfolding the_table
lent_Tables_set_blocks_linked = link.linked-tables::lent::Tables::set_blocks

pub lent_Tables_set_enqueue_linked : (W : World) → Holds W "tables" the_table → Below W → HasT (in_world W) true lent_Tables_set_enqueue.code
unfolding the_table
lent_Tables_set_enqueue_linked = link.linked-tables::lent::Tables::set_enqueue

pub lent_Tables_set_outcome_linked : (W : World) → Holds W "tables" the_table → Below W → HasT (in_world W) true lent_Tables_set_outcome.code
unfolding the_table
lent_Tables_set_outcome_linked = link.linked-tables::lent::Tables::set_outcome

pub lent_Tables_set_request_linked : (W : World) → Holds W "tables" the_table → Below W → HasT (in_world W) true lent_Tables_set_request.code
unfolding the_table
lent_Tables_set_request_linked = link.linked-tables::lent::Tables::set_request

pub lent_Tables_set_semaphore_linked : (W : World) → Holds W "tables" the_table → Below W → HasT (in_world W) true lent_Tables_set_semaphore.code
unfolding the_table
lent_Tables_set_semaphore_linked = link.linked-tables::lent::Tables::set_semaphore

pub lent_Tables_task_linked : (W : World) → Holds W "tables" the_table → Below W → HasT (in_world W) true lent_Tables_task.code
unfolding the_table
lent_Tables_task_linked = link.linked-tables::lent::Tables::task

pub lent_Tables_withdraw_linked : (W : World) → Holds W "tables" the_table → Below W → HasT (in_world W) true lent_Tables_withdraw.code
unfolding the_table
lent_Tables_withdraw_linked = link.linked-tables::lent::Tables::withdraw

pub planes_put_bit_linked : (W : World) → Holds W "tables" the_table → Below W → HasT (in_world W) true planes_put_bit.code
unfolding the_table
planes_put_bit_linked = link.linked-tables::planes::put_bit

pub semaphores_is_waiting_linked : (W : World) → Holds W "tables" the_table → Below W → HasT (in_world W) true semaphores_is_waiting.code
unfolding the_table
semaphores_is_waiting_linked = link.linked-tables::semaphores::is_waiting

pub semaphores_load_linked : (W : World) → Holds W "tables" the_table → Below W → HasT (in_world W) true semaphores_load.code
unfolding the_table
semaphores_load_linked = link.linked-tables::semaphores::load

pub tasks_load_linked : (W : World) → Holds W "tables" the_table → Below W → HasT (in_world W) true tasks_load.code
unfolding the_table
tasks_load_linked = link.linked-tables::tasks::load

pub tasks_running_linked : (W : World) → Holds W "tables" the_table → Below W → HasT (in_world W) true tasks_running.code
unfolding the_table
tasks_running_linked = link.linked-tables::tasks::running
