use Rattle.rings.specs.Laws.{put_done}
use Rattle.rings.proofs.put.Goals as goal

pub returns-clause-body_after_2 : goal.returns-clause-body_after_2
returns-clause-body_after_2 c =
    let a = c.args in
    (put_done a.w a.depth a.head a.count c.wrap-i.result a.body.now c.copy_short.new.dst a.entry.now c.requires.0 c.requires.1 c.requires.3 c.requires.4 c.wrap-i.ensures c.copy_short.ensures).1
