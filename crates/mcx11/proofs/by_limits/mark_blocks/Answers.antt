-- Each block has room for its marks.
use Rattle.mcx11.specs.Sizes.{config_sized, tables_sized, slots_sized, timers_sized}
use Rattle.mcx11.proofs.by_limits.mark_blocks.Goals as goal

pub mark_ends-requires : goal.mark_ends-requires
mark_ends-requires c = config_sized c.requires

pub mark_ends-requires-2 : goal.mark_ends-requires-2
mark_ends-requires-2 c = tables_sized c.requires

pub mark_ends-requires-3 : goal.mark_ends-requires-3
mark_ends-requires-3 c = slots_sized c.requires

pub mark_ends-requires-4 : goal.mark_ends-requires-4
mark_ends-requires-4 c = timers_sized c.requires
