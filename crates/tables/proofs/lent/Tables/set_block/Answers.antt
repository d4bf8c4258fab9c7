-- `set_block` writes one byte of a plane: one bit of it is new.
use Rattle.std.proofs.Common.{rules}
use Rattle.tables.specs.Blocks.{block_stored}
use Rattle.tables.proofs.lent.Tables.set_block.Goals as goal

pub returns : goal.returns
returns c =
    let a = c.args in
    let b = a.self.now in
    let e = c.plane_of.ensures.0 in
    record {
      reference = search rules;
      shape = search rules;
      does = λ tidy g L z w h. rw e (block_stored g b.shape L b.bytes.now z w h a.t c.requires a.k a.on c.put_bit.result (rw e at c.put_bit.ensures));
    }
