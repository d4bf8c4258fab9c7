-- The crate's functions in the world of a build, which is what an environment is made of (the kit's prog.Linked): its table of functions, and
-- that a world with this table, and with what its functions call of other crates (`Below`), has the code of those that are called from outside, whatever else is in it.
use prog.Linked.{Tree, World, Holds, in_world}
use prog.LinkedThreads.{HasT}
use mathlib.Core.Bool.{true}
use Rattle.configuration.proofs.TheLink as link
use Rattle.configuration.proofs.block.counts.Symbol as block_counts
use Rattle.configuration.proofs.block.lent.Symbol as block_lent
use Rattle.configuration.proofs.block.ring_of.Symbol as block_ring_of
use Rattle.configuration.proofs.block.shape_of.Symbol as block_shape_of
use Rattle.configuration.proofs.frame.refusal_by.Symbol as frame_refusal_by
use Rattle.configuration.proofs.fresh.start.Symbol as fresh_start
use Rattle.configuration.proofs.limits.brake_module.Symbol as limits_brake_module
use Rattle.configuration.proofs.limits.controller.Symbol as limits_controller
use Rattle.configuration.proofs.limits.longest.Symbol as limits_longest

pub the_table : Tree
the_table = link.table

abbrev pub Below : World → Type 0
Below = link.Below

pub block_counts_linked : (W : World) → Holds W "configuration" the_table → Below W → HasT (in_world W) true block_counts.code
unfolding the_table
block_counts_linked = link.linked-configuration::block::counts

pub block_lent_linked : (W : World) → Holds W "configuration" the_table → Below W → HasT (in_world W) true block_lent.code
unfolding the_table
block_lent_linked = link.linked-configuration::block::lent

pub block_ring_of_linked : (W : World) → Holds W "configuration" the_table → Below W → HasT (in_world W) true block_ring_of.code
unfolding the_table
block_ring_of_linked = link.linked-configuration::block::ring_of

pub block_shape_of_linked : (W : World) → Holds W "configuration" the_table → Below W → HasT (in_world W) true block_shape_of.code
unfolding the_table
block_shape_of_linked = link.linked-configuration::block::shape_of

pub frame_refusal_by_linked : (W : World) → Holds W "configuration" the_table → Below W → HasT (in_world W) true frame_refusal_by.code
unfolding the_table
frame_refusal_by_linked = link.linked-configuration::frame::refusal_by

pub fresh_start_linked : (W : World) → Holds W "configuration" the_table → Below W → HasT (in_world W) true fresh_start.code
unfolding the_table
fresh_start_linked = link.linked-configuration::fresh::start

pub limits_brake_module_linked : (W : World) → Holds W "configuration" the_table → Below W → HasT (in_world W) true limits_brake_module.code
unfolding the_table
limits_brake_module_linked = link.linked-configuration::limits::brake_module

pub limits_controller_linked : (W : World) → Holds W "configuration" the_table → Below W → HasT (in_world W) true limits_controller.code
unfolding the_table
limits_controller_linked = link.linked-configuration::limits::controller

pub limits_longest_linked : (W : World) → Holds W "configuration" the_table → Below W → HasT (in_world W) true limits_longest.code
unfolding the_table
limits_longest_linked = link.linked-configuration::limits::longest
