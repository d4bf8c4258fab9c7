-- The blocks are set one after the other.
use Rattle.tables.specs.Lent.{both, by}
use Rattle.tables.specs.Blocks.{blocks_stored}
use Rattle.tables.proofs.lent.Tables.set_blocks.Goals as goal

pub returns : goal.returns
returns c =
    let a = c.args in
    by
    (both (both (both c.set_block.ensures c.set_block-2.ensures) c.set_block-3.ensures) c.set_block-4.ensures)
    (λ s. blocks_stored a.self.now.shape a.self.now.bytes.now _ _ _ _ a.t c.requires a.b s.0.0.0 s.0.0.1 s.0.1 s.1)
