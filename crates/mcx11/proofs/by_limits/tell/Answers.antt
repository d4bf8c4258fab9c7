-- The running task is asked of the tables' part, and the answer written from it and the slots'.
use native.Mathlib.Omega.{arith}
use mathlib.Core.Path.{◌≡◌, sym, ◌∙◌}
use lib.ListN.{length}
use Rattle.rows.specs.Splice.{cut}
use Rattle.rows.specs.Laws.{length_cut}
use Rattle.parts.specs.Parts.{part_at}
use Prim.Native.Nat.{◌+◌, ◌*◌}
use Rattle.tables.specs.Layout.{still_fits}
use Rattle.parts.specs.Parts.{part}
use Rattle.mcx11.proofs.by_limits.tell.Goals as goal

pub running-running-requires : goal.running-running-requires
running-running-requires c =
    let e : length (cut c.args.tables.now part_at (part_at + c.args.shape.end)) ≡ c.args.shape.end = length_cut c.args.tables.now part_at (part_at + c.args.shape.end) c.requires.1 ∙ omega arith in
    still_fits c.requires.0 (sym e)

pub write-requires : goal.write-requires
write-requires c =
    let e : length (cut c.args.tables.now part_at (part_at + c.args.shape.end)) ≡ c.args.shape.end = length_cut c.args.tables.now part_at (part_at + c.args.shape.end) c.requires.1 ∙ omega arith in
    (still_fits c.requires.0 (sym e), omega (arith, length_cut c.args.slots.now part_at (part_at + 16 * c.args.shape.tasks) c.requires.2), c.requires.3, c.running-running.ensures.0)

pub returns : goal.returns
unfolding part
returns c = λ x L w h. c.write.ensures x L w h (c.running-running.ensures.1 x L _ w h)
