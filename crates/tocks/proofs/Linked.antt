-- The crate's functions in the world of a build, which is what an environment is made of (the kit's prog.Linked): its table of functions, and
-- that a world with this table, and with what its functions call of other crates (`Below`), has the code of those that are called from outside, whatever else is in it.
use prog.Linked.{Tree, World, Holds, in_world}
use prog.LinkedThreads.{HasT}
use mathlib.Core.Bool.{true}
use Rattle.tocks.proofs.TheLink as link
use Rattle.tocks.proofs.long_tock_value_at.Symbol as long_tock_value_at
use Rattle.tocks.proofs.milliseconds.Symbol as milliseconds
use Rattle.tocks.proofs.tock_value_at.Symbol as tock_value_at

pub the_table : Tree
the_table = link.table

abbrev pub Below : World → Type 0
Below = link.Below

pub long_tock_value_at_linked : (W : World) → Holds W "tocks" the_table → Below W → HasT (in_world W) true long_tock_value_at.code
unfolding the_table
long_tock_value_at_linked = link.linked-tocks::long_tock_value_at

pub milliseconds_linked : (W : World) → Holds W "tocks" the_table → Below W → HasT (in_world W) true milliseconds.code
unfolding the_table
milliseconds_linked = link.linked-tocks::milliseconds

pub tock_value_at_linked : (W : World) → Holds W "tocks" the_table → Below W → HasT (in_world W) true tock_value_at.code
unfolding the_table
tock_value_at_linked = link.linked-tocks::tock_value_at
