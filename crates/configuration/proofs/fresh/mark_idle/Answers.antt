-- The tasks before i are marked.
use Rattle.std.proofs.Common.{◌≡◌, Bool, true, false, cond, not, nat_eq, get_or, refl, arith}
use Rattle.configuration.specs.Written.{marked_turn}
use Rattle.configuration.proofs.fresh.mark_idle.Goals as goal

not_is : (b : Bool) → not b ≡ cond b false true
not_is true = refl
not_is false = refl

pub loop-i-preserved : goal.loop-i-preserved
loop-i-preserved c =
    let a = c.args in
    let l = c.loop-i in
    marked_turn a.states.now a.planes.now l.planes l.i _ _ (omega arith) (omega arith) (not_is (nat_eq (get_or a.states.now l.i 0) 0)) c.put_bit.ensures l.invariant
