-- The crate's functions in the world of a build, which is what an environment is made of (the kit's prog.Linked): its table of functions, and
-- that a world with this table, and with what its functions call of other crates (`Below`), has the code of those that are called from outside, whatever else is in it.
use prog.Linked.{Tree, World, Holds, in_world}
use prog.LinkedThreads.{HasT}
use mathlib.Core.Bool.{true}
use Rattle.timers.proofs.TheLink as link
use Rattle.timers.proofs.Timers.insert.Symbol as Timers_insert
use Rattle.timers.proofs.Timers.pass.Symbol as Timers_pass
use Rattle.timers.proofs.Timers.purge.Symbol as Timers_purge
use Rattle.timers.proofs.Timers.take_due.Symbol as Timers_take_due
use Rattle.timers.proofs.has.Symbol as has

pub the_table : Tree
the_table = link.table

abbrev pub Below : World → Type 0
Below = link.Below

pub Timers_insert_linked : (W : World) → Holds W "timers" the_table → Below W → HasT (in_world W) true Timers_insert.code
unfolding the_table
Timers_insert_linked = link.linked-timers::Timers::insert

pub Timers_pass_linked : (W : World) → Holds W "timers" the_table → Below W → HasT (in_world W) true Timers_pass.code
unfolding the_table
Timers_pass_linked = link.linked-timers::Timers::pass

pub Timers_purge_linked : (W : World) → Holds W "timers" the_table → Below W → HasT (in_world W) true Timers_purge.code
unfolding the_table
Timers_purge_linked = link.linked-timers::Timers::purge

pub Timers_take_due_linked : (W : World) → Holds W "timers" the_table → Below W → HasT (in_world W) true Timers_take_due.code
unfolding the_table
Timers_take_due_linked = link.linked-timers::Timers::take_due

pub has_linked : (W : World) → Holds W "timers" the_table → Below W → HasT (in_world W) true has.code
unfolding the_table
has_linked = link.linked-timers::has
