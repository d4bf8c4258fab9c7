-- The crate's functions in the world of a build, which is what an environment is made of (the kit's prog.Linked): its table of functions, and
-- that a world with this table, and with what its functions call of other crates (`Below`), has the code of those that are called from outside, whatever else is in it.
use prog.Linked.{Tree, World, Holds, in_world}
use prog.LinkedThreads.{HasT}
use mathlib.Core.Bool.{true}
use Rattle.clock.proofs.TheLink as link
use Rattle.clock.proofs.advance.Symbol as advance
use Rattle.clock.proofs.count.Symbol as count
use Rattle.clock.proofs.has.Symbol as has
use Rattle.clock.proofs.purge.Symbol as purge
use Rattle.clock.proofs.start.Symbol as start
use Rattle.clock.proofs.take_due.Symbol as take_due

pub the_table : Tree
the_table = link.table

abbrev pub Below : World → Type 0
Below = link.Below

pub advance_linked : (W : World) → Holds W "clock" the_table → Below W → HasT (in_world W) true advance.code
unfolding the_table
advance_linked = link.linked-clock::advance

pub count_linked : (W : World) → Holds W "clock" the_table → Below W → HasT (in_world W) true count.code
unfolding the_table
count_linked = link.linked-clock::count

pub has_linked : (W : World) → Holds W "clock" the_table → Below W → HasT (in_world W) true has.code
unfolding the_table
has_linked = link.linked-clock::has

pub purge_linked : (W : World) → Holds W "clock" the_table → Below W → HasT (in_world W) true purge.code
unfolding the_table
purge_linked = link.linked-clock::purge

pub start_linked : (W : World) → Holds W "clock" the_table → Below W → HasT (in_world W) true start.code
unfolding the_table
start_linked = link.linked-clock::start

pub take_due_linked : (W : World) → Holds W "clock" the_table → Below W → HasT (in_world W) true take_due.code
unfolding the_table
take_due_linked = link.linked-clock::take_due
