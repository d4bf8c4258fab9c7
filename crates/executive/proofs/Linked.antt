-- The crate's functions in the world of a build, which is what an environment is made of (the kit's prog.Linked): its table of functions, and
-- that a world with this table, and with what its functions call of other crates (`Below`), has the code of those that are called from outside, whatever else is in it.
use prog.Linked.{Tree, World, Holds, in_world}
use prog.LinkedThreads.{HasT}
use mathlib.Core.Bool.{true}
use Rattle.executive.proofs.TheLink as link
use Rattle.executive.proofs.frames.step.Symbol as frames_step

pub the_table : Tree
the_table = link.table

abbrev pub Below : World → Type 0
Below = link.Below

pub frames_step_linked : (W : World) → Holds W "executive" the_table → Below W → HasT (in_world W) true frames_step.code
unfolding the_table
frames_step_linked = link.linked-executive::frames::step
