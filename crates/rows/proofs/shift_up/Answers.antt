-- What is moved so far is `raised`.
use native.Mathlib.Omega.{arith}
use Rattle.rows.specs.Laws.{raised_turn}
use Rattle.rows.proofs.shift_up.Goals as goal

pub loop-i-preserved : goal.loop-i-preserved
loop-i-preserved c =
    let a = c.args in
    let l = c.loop-i in
    (omega arith, raised_turn a.buf.now l.buf l.i a.to a.w (omega arith) l.invariant.1 (omega arith) (omega arith))
