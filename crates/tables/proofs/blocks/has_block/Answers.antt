-- The bit of the byte is the one that `has` names.
use mathlib.Core.Path.{ap, sym, ◌∙◌}
use Prim.Native.Nat.{ℕ, ◌+◌, ◌-◌, ◌*◌, ◌/◌, ◌%◌}
use lib.ListN.{get_or}
use Rattle.tables.specs.Layout.{planes_at}
use Rattle.tables.specs.Bits.{bit}
use Rattle.tables.specs.Planes.{has}
use Rattle.tables.specs.Blocks.{block_cut}
use Rattle.tables.proofs.blocks.has_block.Goals as goal

pub returns : goal.returns
unfolding has
returns c =
    let a = c.args in
    c.bit_of.ensures ∙ ap (λ (x : ℕ). bit x ((a.t - 1) % 8)) (ap (λ (x : ℕ). get_or a.tables.now (planes_at + 16 * x + (a.t - 1) / 8) 0) c.plane_of.ensures.0 ∙ sym (block_cut a.tables.now a.t c.requires.1 a.k))
