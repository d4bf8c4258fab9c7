-- Stage by stage: the first line, any other, and none once the session has ended.
use native.Mathlib.Omega.{arith}
use Rattle.feeding.specs.Feeds.{says_first, says_next, says_ended}
use Rattle.feeding.proofs.answer_line.Goals as goal

pub returns-in-First : goal.returns-in-First
returns-in-First c =
    let p = c.print.ensures in
    (p.0, says_first _ _ _ _ _ _ _ c.in-First.is c.reply_first-stage.ensures p.1)

pub returns-in-Running : goal.returns-in-Running
returns-in-Running c =
    let p = c.print-in-Running.ensures in
    (p.0, says_next _ _ _ _ _ _ _ c.in-Running.is c.reply_next.ensures p.1)

pub returns-in-Ended : goal.returns-in-Ended
returns-in-Ended c = (omega arith, says_ended _ _ _ _ c.in-Ended.is)
