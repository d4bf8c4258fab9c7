-- `write` writes the running task's outcome, which for the null task is plain: what the tables say of that task is the ledger's.
use native.Mathlib.Omega.{arith}
use Rattle.answer.specs.Answered.{answer_null, answer_task}
use Rattle.answer.proofs.write.Goals as goal

pub returns-then-running-eq0 : goal.returns-then-running-eq0
returns-then-running-eq0 c =
    let a = c.args in
    λ g L w h r.
    answer_null g a.shape L a.tables.now a.slots.now w h _ r a.answer.now _ c.if-running-eq0.true c.put.ensures

pub returns : goal.returns
returns c =
    let a = c.args in
    λ g L w h r.
    answer_task g a.shape L a.tables.now a.slots.now w h _ r a.answer.now _ _ (omega arith, c.requires.3) c.load-k.ensures.0 c.put_outcome.ensures
