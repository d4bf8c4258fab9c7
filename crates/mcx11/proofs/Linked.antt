-- The crate's functions in the world of a build, which is what an environment is made of (the kit's prog.Linked): its table of functions, and
-- that a world with this table, and with what its functions call of other crates (`Below`), has the code of those that are called from outside, whatever else is in it.
use prog.Linked.{Tree, World, Holds, in_world}
use prog.LinkedThreads.{HasT}
use mathlib.Core.Bool.{true}
use Rattle.mcx11.proofs.TheLink as link
use Rattle.mcx11.proofs.by_limits.tell.Symbol as by_limits_tell
use Rattle.mcx11.proofs.entries.mcx11_configure_blocks.Symbol as entries_mcx11_configure_blocks
use Rattle.mcx11.proofs.entries.mcx11_frame_blocks.Symbol as entries_mcx11_frame_blocks
use Rattle.mcx11.proofs.entries.mcx11_module_configure_blocks.Symbol as entries_mcx11_module_configure_blocks
use Rattle.mcx11.proofs.entries.mcx11_module_frame_blocks.Symbol as entries_mcx11_module_frame_blocks
use Rattle.mcx11.proofs.lent.counts.Symbol as lent_counts
use Rattle.mcx11.proofs.mcx11_busiest.Symbol as mcx11_busiest
use Rattle.mcx11.proofs.mcx11_free_start.Symbol as mcx11_free_start
use Rattle.mcx11.proofs.mcx11_milliseconds.Symbol as mcx11_milliseconds
use Rattle.mcx11.proofs.mcx11_read_line.Symbol as mcx11_read_line
use Rattle.mcx11.proofs.mcx11_write_line.Symbol as mcx11_write_line

pub the_table : Tree
the_table = link.table

abbrev pub Below : World → Type 0
Below = link.Below

pub by_limits_tell_linked : (W : World) → Holds W "mcx11" the_table → Below W → HasT (in_world W) true by_limits_tell.code
unfolding the_table
by_limits_tell_linked = link.linked-mcx11::by_limits::tell

pub entries_mcx11_configure_blocks_linked : (W : World) → Holds W "mcx11" the_table → Below W → HasT (in_world W) true entries_mcx11_configure_blocks.code
unfolding the_table
entries_mcx11_configure_blocks_linked = link.linked-mcx11::entries::mcx11_configure_blocks

pub entries_mcx11_frame_blocks_linked : (W : World) → Holds W "mcx11" the_table → Below W → HasT (in_world W) true entries_mcx11_frame_blocks.code
unfolding the_table
entries_mcx11_frame_blocks_linked = link.linked-mcx11::entries::mcx11_frame_blocks

pub entries_mcx11_module_configure_blocks_linked : (W : World) → Holds W "mcx11" the_table → Below W → HasT (in_world W) true entries_mcx11_module_configure_blocks.code
unfolding the_table
entries_mcx11_module_configure_blocks_linked = link.linked-mcx11::entries::mcx11_module_configure_blocks

pub entries_mcx11_module_frame_blocks_linked : (W : World) → Holds W "mcx11" the_table → Below W → HasT (in_world W) true entries_mcx11_module_frame_blocks.code
unfolding the_table
entries_mcx11_module_frame_blocks_linked = link.linked-mcx11::entries::mcx11_module_frame_blocks

pub lent_counts_linked : (W : World) → Holds W "mcx11" the_table → Below W → HasT (in_world W) true lent_counts.code
unfolding the_table
lent_counts_linked = link.linked-mcx11::lent::counts

pub mcx11_busiest_linked : (W : World) → Holds W "mcx11" the_table → Below W → HasT (in_world W) true mcx11_busiest.code
unfolding the_table
mcx11_busiest_linked = link.linked-mcx11::mcx11_busiest

pub mcx11_free_start_linked : (W : World) → Holds W "mcx11" the_table → Below W → HasT (in_world W) true mcx11_free_start.code
unfolding the_table
mcx11_free_start_linked = link.linked-mcx11::mcx11_free_start

pub mcx11_milliseconds_linked : (W : World) → Holds W "mcx11" the_table → Below W → HasT (in_world W) true mcx11_milliseconds.code
unfolding the_table
mcx11_milliseconds_linked = link.linked-mcx11::mcx11_milliseconds

pub mcx11_read_line_linked : (W : World) → Holds W "mcx11" the_table → Below W → HasT (in_world W) true mcx11_read_line.code
unfolding the_table
mcx11_read_line_linked = link.linked-mcx11::mcx11_read_line

pub mcx11_write_line_linked : (W : World) → Holds W "mcx11" the_table → Below W → HasT (in_world W) true mcx11_write_line.code
unfolding the_table
mcx11_write_line_linked = link.linked-mcx11::mcx11_write_line
