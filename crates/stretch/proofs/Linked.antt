-- The crate's functions in the world of a build, which is what an environment is made of (the kit's prog.Linked): its table of functions, and
-- that a world with this table, and with what its functions call of other crates (`Below`), has the code of those that are called from outside, whatever else is in it.
use prog.Linked.{Tree, World, Holds, in_world}
use prog.LinkedThreads.{HasT}
use mathlib.Core.Bool.{true}
use Rattle.stretch.proofs.TheLink as link
use Rattle.stretch.proofs.busiest.Symbol as busiest
use Rattle.stretch.proofs.give.Symbol as give

pub the_table : Tree
the_table = link.table

abbrev pub Below : World → Type 0
Below = link.Below

pub busiest_linked : (W : World) → Holds W "stretch" the_table → Below W → HasT (in_world W) true busiest.code
unfolding the_table
busiest_linked = link.linked-stretch::busiest

pub give_linked : (W : World) → Holds W "stretch" the_table → Below W → HasT (in_world W) true give.code
unfolding the_table
give_linked = link.linked-stretch::give
