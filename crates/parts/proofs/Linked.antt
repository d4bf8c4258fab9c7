-- The crate's functions in the world of a build, which is what an environment is made of (the kit's prog.Linked): its table of functions, and
-- that a world with this table, and with what its functions call of other crates (`Below`), has the code of those that are called from outside, whatever else is in it.
use prog.Linked.{Tree, World, Holds, in_world}
use prog.LinkedThreads.{HasT}
use mathlib.Core.Bool.{true}
use Rattle.parts.proofs.TheLink as link
use Rattle.parts.proofs.frame_length.Symbol as frame_length
use Rattle.parts.proofs.is_marked.Symbol as is_marked
use Rattle.parts.proofs.keep_frame.Symbol as keep_frame
use Rattle.parts.proofs.kept_frame.Symbol as kept_frame
use Rattle.parts.proofs.mark_ends.Symbol as mark_ends

pub the_table : Tree
the_table = link.table

abbrev pub Below : World → Type 0
Below = link.Below

pub frame_length_linked : (W : World) → Holds W "parts" the_table → Below W → HasT (in_world W) true frame_length.code
unfolding the_table
frame_length_linked = link.linked-parts::frame_length

pub is_marked_linked : (W : World) → Holds W "parts" the_table → Below W → HasT (in_world W) true is_marked.code
unfolding the_table
is_marked_linked = link.linked-parts::is_marked

pub keep_frame_linked : (W : World) → Holds W "parts" the_table → Below W → HasT (in_world W) true keep_frame.code
unfolding the_table
keep_frame_linked = link.linked-parts::keep_frame

pub kept_frame_linked : (W : World) → Holds W "parts" the_table → Below W → HasT (in_world W) true kept_frame.code
unfolding the_table
kept_frame_linked = link.linked-parts::kept_frame

pub mark_ends_linked : (W : World) → Holds W "parts" the_table → Below W → HasT (in_world W) true mark_ends.code
unfolding the_table
mark_ends_linked = link.linked-parts::mark_ends
