-- What is copied so far is `paste`.
use native.Mathlib.Omega.{arith}
use Rattle.rows.specs.Laws.{copied_turn}
use Rattle.rows.proofs.copy_in.Goals as goal

pub loop-j-preserved : goal.loop-j-preserved
loop-j-preserved c =
    let a = c.args in
    let l = c.loop-j in
    copied_turn a.dst.now l.dst a.src.now a.at l.j (omega arith) l.invariant (omega arith)
