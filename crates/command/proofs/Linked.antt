-- The crate's functions in the world of a build, which is what an environment is made of (the kit's prog.Linked): its table of functions, and
-- that a world with this table, and with what its functions call of other crates (`Below`), has the code of those that are called from outside, whatever else is in it.
use prog.Linked.{Tree, World, Holds, in_world}
use prog.LinkedThreads.{HasT}
use mathlib.Core.Bool.{true}
use Rattle.command.proofs.TheLink as link
use Rattle.command.proofs.codes.CodeTryFromU8.try_from.Symbol as codes_try_from
use Rattle.command.proofs.codes.row.Symbol as codes_row
use Rattle.command.proofs.fields.meant_semaphore.Symbol as fields_meant_semaphore
use Rattle.command.proofs.fields.meant_task.Symbol as fields_meant_task
use Rattle.command.proofs.refusal.Symbol as refusal

pub the_table : Tree
the_table = link.table

abbrev pub Below : World → Type 0
Below = link.Below

pub codes_try_from_linked : (W : World) → Holds W "command" the_table → Below W → HasT (in_world W) true codes_try_from.code
unfolding the_table
codes_try_from_linked = link.linked-command::codes::CodeTryFromU8::try_from

pub codes_row_linked : (W : World) → Holds W "command" the_table → Below W → HasT (in_world W) true codes_row.code
unfolding the_table
codes_row_linked = link.linked-command::codes::row

pub fields_meant_semaphore_linked : (W : World) → Holds W "command" the_table → Below W → HasT (in_world W) true fields_meant_semaphore.code
unfolding the_table
fields_meant_semaphore_linked = link.linked-command::fields::meant_semaphore

pub fields_meant_task_linked : (W : World) → Holds W "command" the_table → Below W → HasT (in_world W) true fields_meant_task.code
unfolding the_table
fields_meant_task_linked = link.linked-command::fields::meant_task

pub refusal_linked : (W : World) → Holds W "command" the_table → Below W → HasT (in_world W) true refusal.code
unfolding the_table
refusal_linked = link.linked-command::refusal
