-- The parts lie within the blocks; a start over them, and they are back.
use native.Mathlib.Omega.{arith}
use Rattle.rows.specs.Laws.{length_cut}
use Rattle.parts.specs.Parts.{part_at}
use Prim.Native.Nat.{◌+◌, ◌*◌}
use Rattle.configuration.specs.Started.{timers_bytes}
use Rattle.mcx11.specs.Begun.{placed}
use Rattle.mcx11.proofs.by_limits.place.Goals as goal

pub start-requires : goal.start-requires
start-requires c =
    let x = c.args.shape in
    (c.requires.0, c.requires.1, omega (arith, length_cut c.args.tables.now part_at (part_at + x.end) c.requires.2), omega (arith, length_cut c.args.slots.now part_at (part_at + 16 * x.tasks) c.requires.3), omega (arith, length_cut c.args.timers.now part_at (part_at + timers_bytes x) c.requires.4))

pub returns : goal.returns
returns c =
    let k = c.start.auto in
    placed c.args.shape c.args.frame.now c.args.tables.now c.args.slots.now c.args.timers.now _ _ _ c.requires.2 c.requires.3 c.requires.4 k.tables k.slots k.timers c.start.ensures
