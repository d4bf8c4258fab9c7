-- The crate's functions in the world of a build, which is what an environment is made of (the kit's prog.Linked): its table of functions, and
-- that a world with this table, and with what its functions call of other crates (`Below`), has the code of those that are called from outside, whatever else is in it.
use prog.Linked.{Tree, World, Holds, in_world}
use prog.LinkedThreads.{HasT}
use mathlib.Core.Bool.{true}
use Rattle.messages.proofs.TheLink as link
use Rattle.messages.proofs.insert.Symbol as insert
use Rattle.messages.proofs.lent.Messages.complete.Symbol as lent_Messages_complete
use Rattle.messages.proofs.lent.Messages.find.Symbol as lent_Messages_find
use Rattle.messages.proofs.lent.Messages.holds.Symbol as lent_Messages_holds
use Rattle.messages.proofs.lent.Messages.load.Symbol as lent_Messages_load
use Rattle.messages.proofs.remove.Symbol as remove

pub the_table : Tree
the_table = link.table

abbrev pub Below : World → Type 0
Below = link.Below

pub insert_linked : (W : World) → Holds W "messages" the_table → Below W → HasT (in_world W) true insert.code
unfolding the_table
insert_linked = link.linked-messages::insert

pub lent_Messages_complete_linked : (W : World) → Holds W "messages" the_table → Below W → HasT (in_world W) true lent_Messages_complete.code
unfolding the_table
lent_Messages_complete_linked = link.linked-messages::lent::Messages::complete

pub lent_Messages_find_linked : (W : World) → Holds W "messages" the_table → Below W → HasT (in_world W) true lent_Messages_find.code
unfolding the_table
lent_Messages_find_linked = link.linked-messages::lent::Messages::find

pub lent_Messages_holds_linked : (W : World) → Holds W "messages" the_table → Below W → HasT (in_world W) true lent_Messages_holds.code
unfolding the_table
lent_Messages_holds_linked = link.linked-messages::lent::Messages::holds

pub lent_Messages_load_linked : (W : World) → Holds W "messages" the_table → Below W → HasT (in_world W) true lent_Messages_load.code
unfolding the_table
lent_Messages_load_linked = link.linked-messages::lent::Messages::load

pub remove_linked : (W : World) → Holds W "messages" the_table → Below W → HasT (in_world W) true remove.code
unfolding the_table
remove_linked = link.linked-messages::remove
