-- `copy_short`: the first eight bytes and the last eight, or four and four, are all of them.
use Prim.Native.Nat.{◌-◌}
use native.Mathlib.Omega.{arith}
use lib.ListN.{length}
use Rattle.rows.specs.Short.{halves}
use Rattle.rows.proofs.copy_short.Goals as goal

pub returns-then-n-ge8 : goal.returns-then-n-ge8
returns-then-n-ge8 c =
    let a = c.args in
    halves a.dst.now _ _ a.src.now a.at (length a.src.now - 8) 8 c.requires (omega arith) (omega arith) c.copy_fixed.ensures c.copy_fixed-then-n-ge8.ensures

pub returns-then-n-ge4 : goal.returns-then-n-ge4
returns-then-n-ge4 c =
    let a = c.args in
    halves a.dst.now _ _ a.src.now a.at (length a.src.now - 4) 4 c.requires (omega arith) (omega arith) c.copy_fixed-then-n-ge4.ensures c.copy_fixed-then-n-ge4-2.ensures
