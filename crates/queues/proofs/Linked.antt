-- The crate's functions in the world of a build, which is what an environment is made of (the kit's prog.Linked): its table of functions, and
-- that a world with this table, and with what its functions call of other crates (`Below`), has the code of those that are called from outside, whatever else is in it.
use prog.Linked.{Tree, World, Holds, in_world}
use prog.LinkedThreads.{HasT}
use mathlib.Core.Bool.{true}
use Rattle.queues.proofs.TheLink as link
use Rattle.queues.proofs.count.Symbol as count
use Rattle.queues.proofs.not_full.Symbol as not_full
use Rattle.queues.proofs.put.Symbol as put
use Rattle.queues.proofs.put_waits.Symbol as put_waits
use Rattle.queues.proofs.reading.count.Symbol as reading_count
use Rattle.queues.proofs.reading.not_full.Symbol as reading_not_full
use Rattle.queues.proofs.reading.put_waits.Symbol as reading_put_waits
use Rattle.queues.proofs.reading.take_waits.Symbol as reading_take_waits
use Rattle.queues.proofs.take.Symbol as take
use Rattle.queues.proofs.take_waits.Symbol as take_waits

pub the_table : Tree
the_table = link.table

abbrev pub Below : World → Type 0
Below = link.Below

pub count_linked : (W : World) → Holds W "queues" the_table → Below W → HasT (in_world W) true count.code
unfolding the_table
count_linked = link.linked-queues::count

pub not_full_linked : (W : World) → Holds W "queues" the_table → Below W → HasT (in_world W) true not_full.code
unfolding the_table
not_full_linked = link.linked-queues::not_full

pub put_linked : (W : World) → Holds W "queues" the_table → Below W → HasT (in_world W) true put.code
unfolding the_table
put_linked = link.linked-queues::put

pub put_waits_linked : (W : World) → Holds W "queues" the_table → Below W → HasT (in_world W) true put_waits.code
unfolding the_table
put_waits_linked = link.linked-queues::put_waits

pub reading_count_linked : (W : World) → Holds W "queues" the_table → Below W → HasT (in_world W) true reading_count.code
unfolding the_table
reading_count_linked = link.linked-queues::reading::count

pub reading_not_full_linked : (W : World) → Holds W "queues" the_table → Below W → HasT (in_world W) true reading_not_full.code
unfolding the_table
reading_not_full_linked = link.linked-queues::reading::not_full

pub reading_put_waits_linked : (W : World) → Holds W "queues" the_table → Below W → HasT (in_world W) true reading_put_waits.code
unfolding the_table
reading_put_waits_linked = link.linked-queues::reading::put_waits

pub reading_take_waits_linked : (W : World) → Holds W "queues" the_table → Below W → HasT (in_world W) true reading_take_waits.code
unfolding the_table
reading_take_waits_linked = link.linked-queues::reading::take_waits

pub take_linked : (W : World) → Holds W "queues" the_table → Below W → HasT (in_world W) true take.code
unfolding the_table
take_linked = link.linked-queues::take

pub take_waits_linked : (W : World) → Holds W "queues" the_table → Below W → HasT (in_world W) true take_waits.code
unfolding the_table
take_waits_linked = link.linked-queues::take_waits
