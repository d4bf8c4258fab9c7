-- The crate's functions in the world of a build, which is what an environment is made of (the kit's prog.Linked): its table of functions, and
-- that a world with this table, and with what its functions call of other crates (`Below`), has the code of those that are called from outside, whatever else is in it.
use prog.Linked.{Tree, World, Holds, in_world}
use prog.LinkedThreads.{HasT}
use mathlib.Core.Bool.{true}
use Rattle.mailboxes.proofs.TheLink as link
use Rattle.mailboxes.proofs.holds.Symbol as holds
use Rattle.mailboxes.proofs.insert.Symbol as insert
use Rattle.mailboxes.proofs.sound.Symbol as sound
use Rattle.mailboxes.proofs.take.Symbol as take

pub the_table : Tree
the_table = link.table

abbrev pub Below : World → Type 0
Below = link.Below

pub holds_linked : (W : World) → Holds W "mailboxes" the_table → Below W → HasT (in_world W) true holds.code
unfolding the_table
holds_linked = link.linked-mailboxes::holds

pub insert_linked : (W : World) → Holds W "mailboxes" the_table → Below W → HasT (in_world W) true insert.code
unfolding the_table
insert_linked = link.linked-mailboxes::insert

pub sound_linked : (W : World) → Holds W "mailboxes" the_table → Below W → HasT (in_world W) true sound.code
unfolding the_table
sound_linked = link.linked-mailboxes::sound

pub take_linked : (W : World) → Holds W "mailboxes" the_table → Below W → HasT (in_world W) true take.code
unfolding the_table
take_linked = link.linked-mailboxes::take
