-- With nothing held there is no line; else what is held is answered.
use native.Mathlib.Omega.{arith}
use Rattle.feeding.specs.Feeds.{ends_none, ends_line}
use Rattle.feeding.proofs.finish.Goals as goal

pub returns-then-end-eq0 : goal.returns-then-end-eq0
returns-then-end-eq0 c = (omega arith, ends_none _ _ c.if-end-eq0.true)

pub returns : goal.returns
returns c =
    let a = c.answer_line-a in
    (a.ensures.0, ends_line _ _ _ _ _ _ _ c.if-end-eq0.false a.ensures.1)
