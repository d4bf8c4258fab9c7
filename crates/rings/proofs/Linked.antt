-- The crate's functions in the world of a build, which is what an environment is made of (the kit's prog.Linked): its table of functions, and
-- that a world with this table, and with what its functions call of other crates (`Below`), has the code of those that are called from outside, whatever else is in it.
use prog.Linked.{Tree, World, Holds, in_world}
use prog.LinkedThreads.{HasT}
use mathlib.Core.Bool.{true}
use Rattle.rings.proofs.TheLink as link
use Rattle.rings.proofs.put.Symbol as put
use Rattle.rings.proofs.take_out.Symbol as take_out

pub the_table : Tree
the_table = link.table

abbrev pub Below : World → Type 0
Below = link.Below

pub put_linked : (W : World) → Holds W "rings" the_table → Below W → HasT (in_world W) true put.code
unfolding the_table
put_linked = link.linked-rings::put

pub take_out_linked : (W : World) → Holds W "rings" the_table → Below W → HasT (in_world W) true take_out.code
unfolding the_table
take_out_linked = link.linked-rings::take_out
