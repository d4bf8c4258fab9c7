-- The output has room for a line.
use Rattle.std.proofs.Common.{ap, arith, rules}
use Rattle.feeding.specs.declared.Reached.{Reached}
use Rattle.mcx11.specs.Contract.{sizes_of}
use Rattle.session.proofs.Memory.end.Goals as goal

pub finish-printed-requires : goal.finish-printed-requires
unfolding sizes_of
finish-printed-requires c =
    let b = c.next_block-last.ensures in
    let held = ap (λ (r : Reached). r.held) b in
    let printed = ap (λ (r : Reached). r.printed) b in
    (omega (arith, held, c.requires), omega (arith, printed), omega arith, search rules)
