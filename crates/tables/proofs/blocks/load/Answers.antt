-- Each block is a bit of its plane, and the planes are where the shape has them.
use mathlib.Core.Path.{ap, sym, ◌∙◌}
use mathlib.Core.List.{List}
use Prim.Native.Nat.{ℕ, ◌-◌}
use Rattle.tables.specs.Layout.{planes_are}
use Rattle.tables.specs.Planes.{has, blocks_at}
use Rattle.tables.specs.Decode.{record_of}
use Rattle.tables.specs.Shows.{record_in}
use Rattle.tables.specs.declared.blocks.Block.{Block}
use Rattle.tables.specs.declared.blocks.Block.TheVariants.{Idle, Suspended, Event, Message}
use Rattle.tables.proofs.blocks.load.Goals as goal

pub returns : goal.returns
unfolding record_in record_of blocks_at
returns c =
    let a = c.args in
    let by = λ (k : Block). ap (λ (p : List ℕ). has k p (a.t - 1)) (sym (planes_are c.requires.0 a.tables.now)) in
    λ i. record {
      idle = (c.has_block.ensures ∙ by Idle) i;
      suspended = (c.has_block-2.ensures ∙ by Suspended) i;
      event = (c.has_block-3.ensures ∙ by Event) i;
      message = (c.has_block-4.ensures ∙ by Message) i;
    }
