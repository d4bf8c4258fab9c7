-- The crate's functions in the world of a build, which is what an environment is made of (the kit's prog.Linked): its table of functions, and
-- that a world with this table, and with what its functions call of other crates (`Below`), has the code of those that are called from outside, whatever else is in it.
use prog.Linked.{Tree, World, Holds, in_world}
use prog.LinkedThreads.{HasT}
use mathlib.Core.Bool.{true}
use Rattle.feeding.proofs.TheLink as link
use Rattle.feeding.proofs.feed.Symbol as feed
use Rattle.feeding.proofs.finish.Symbol as finish

pub the_table : Tree
the_table = link.table

abbrev pub Below : World → Type 0
Below = link.Below

pub feed_linked : (W : World) → Holds W "feeding" the_table → Below W → HasT (in_world W) true feed.code
unfolding the_table
feed_linked = link.linked-feeding::feed

pub finish_linked : (W : World) → Holds W "feeding" the_table → Below W → HasT (in_world W) true finish.code
unfolding the_table
finish_linked = link.linked-feeding::finish
