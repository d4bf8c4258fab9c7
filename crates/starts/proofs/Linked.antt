-- The crate's functions in the world of a build, which is what an environment is made of (the kit's prog.Linked): its table of functions, and
-- that a world with this table, and with what its functions call of other crates (`Below`), has the code of those that are called from outside, whatever else is in it.
use prog.Linked.{Tree, World, Holds, in_world}
use prog.LinkedThreads.{HasT}
use mathlib.Core.Bool.{true}
use Rattle.starts.proofs.TheLink as link
use Rattle.starts.proofs.free_start.Symbol as free_start
use Rattle.starts.proofs.give.Symbol as give

pub the_table : Tree
the_table = link.table

abbrev pub Below : World → Type 0
Below = link.Below

pub free_start_linked : (W : World) → Holds W "starts" the_table → Below W → HasT (in_world W) true free_start.code
unfolding the_table
free_start_linked = link.linked-starts::free_start

pub give_linked : (W : World) → Holds W "starts" the_table → Below W → HasT (in_world W) true give.code
unfolding the_table
give_linked = link.linked-starts::give
