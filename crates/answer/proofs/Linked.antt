-- The crate's functions in the world of a build, which is what an environment is made of (the kit's prog.Linked): its table of functions, and
-- that a world with this table, and with what its functions call of other crates (`Below`), has the code of those that are called from outside, whatever else is in it.
use prog.Linked.{Tree, World, Holds, in_world}
use prog.LinkedThreads.{HasT}
use mathlib.Core.Bool.{true}
use Rattle.answer.proofs.TheLink as link
use Rattle.answer.proofs.refuse_configuration.Symbol as refuse_configuration
use Rattle.answer.proofs.write.Symbol as write

pub the_table : Tree
the_table = link.table

abbrev pub Below : World → Type 0
Below = link.Below

pub refuse_configuration_linked : (W : World) → Holds W "answer" the_table → Below W → HasT (in_world W) true refuse_configuration.code
unfolding the_table
refuse_configuration_linked = link.linked-answer::refuse_configuration

pub write_linked : (W : World) → Holds W "answer" the_table → Below W → HasT (in_world W) true write.code
unfolding the_table
write_linked = link.linked-answer::write
