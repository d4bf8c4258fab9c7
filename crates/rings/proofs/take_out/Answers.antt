use Rattle.rings.specs.Laws.{take_done}
use Rattle.rings.proofs.take_out.Goals as goal

pub returns-clause-upper_bound : goal.returns-clause-upper_bound
returns-clause-upper_bound c =
    let a = c.args in
    (take_done a.w a.depth a.head a.count c.wrap.result a.body.now a.out.now c.copy_short.new.dst c.requires.0 c.requires.1 c.requires.2 c.copy_short.ensures c.wrap.ensures).1
