-- The crate's functions in the world of a build, which is what an environment is made of (the kit's prog.Linked): its table of functions, and
-- that a world with this table has the code of the functions that other crates call, whatever else is in it.
use prog.Linked.{Tree, World, Holds, in_world}
use prog.LinkedThreads.{HasT}
use mathlib.Core.Bool.{true}
use Rattle.refusals.proofs.TheLink as link
use Rattle.refusals.proofs.U8FromRefusal.from.Symbol as from
use Rattle.refusals.proofs.returned.Symbol as returned

pub the_table : Tree
the_table = link.table

pub from_linked : (W : World) → Holds W "refusals" the_table → HasT (in_world W) true from.code
unfolding the_table
from_linked W h = link.linked-refusals::U8FromRefusal::from W h tt

pub returned_linked : (W : World) → Holds W "refusals" the_table → HasT (in_world W) true returned.code
unfolding the_table
returned_linked W h = link.linked-refusals::returned W h tt
