-- The crate's functions in the world of a build, which is what an environment is made of (the kit's prog.Linked): its table of functions, and
-- that a world with this table has the code of the functions that other crates call, whatever else is in it.
use prog.Linked.{Tree, World, Holds, in_world}
use prog.LinkedThreads.{HasT}
use mathlib.Core.Bool.{true}
use Rattle.line.proofs.TheLink as link
use Rattle.line.proofs.reading.read.Symbol as read
use Rattle.line.proofs.writing.write.Symbol as write

pub the_table : Tree
the_table = link.table

pub read_linked : (W : World) → Holds W "line" the_table → HasT (in_world W) true read.code
unfolding the_table
read_linked W h = link.linked-line::reading::read W h tt

pub write_linked : (W : World) → Holds W "line" the_table → HasT (in_world W) true write.code
unfolding the_table
write_linked W h = link.linked-line::writing::write W h tt
