-- `clear_all` changes the bytes from the front: those before the index are cleared.
use native.Mathlib.Omega.{arith}
use Rattle.tables.specs.Withdrawn.{cleared_turn, cleared_end}
use Rattle.tables.proofs.semaphores.clear_all.Goals as goal

pub loop-x-preserved : goal.loop-x-preserved
loop-x-preserved c =
    let a = c.args in
    let l = c.loop-x in
    cleared_turn a.t l.x-index a.part.now l.part c.cleared.result (omega arith) l.invariant c.cleared.ensures

pub returns : goal.returns
returns c =
    let l = c.loop-x in
    cleared_end c.args.t l.x-index c.args.part.now l.part (omega arith) l.invariant
