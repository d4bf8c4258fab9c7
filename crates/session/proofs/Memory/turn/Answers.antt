-- The output has room for 41 bytes for each byte of the block.
use Rattle.std.proofs.Common.{ap, arith, rules, length-take}
use Rattle.feeding.specs.declared.Reached.{Reached}
use Rattle.mcx11.specs.Contract.{sizes_of}
use Rattle.session.proofs.Memory.turn.Goals as goal

pub feed-r-requires : goal.feed-r-requires
unfolding sizes_of
feed-r-requires c =
    let b = c.next_block-from.ensures in
    let next = ap (λ (r : Reached). r.next) b in
    let held = ap (λ (r : Reached). r.held) b in
    let printed = ap (λ (r : Reached). r.printed) b in
    let block = length-take c.in-Ok.n c.read.new.buf in
    (omega (arith, next), omega (arith, held, c.requires), omega (arith, printed), omega (arith, block, c.in-Ok.ensures.bound), omega arith, search rules)
