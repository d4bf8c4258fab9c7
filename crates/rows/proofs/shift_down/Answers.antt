-- What is moved so far is `paste`.
use native.Mathlib.Omega.{arith}
use Rattle.rows.specs.Laws.{lowered_turn}
use Rattle.rows.proofs.shift_down.Goals as goal

pub loop-i-preserved : goal.loop-i-preserved
loop-i-preserved c =
    let a = c.args in
    let l = c.loop-i in
    lowered_turn a.buf.now l.buf a.from a.to a.w l.i (omega arith) (omega arith) l.invariant (omega arith) (omega arith)
