-- `line::writing::put_digits` meets its contract: a turn writes the two digits of the next byte. Assumes nothing.
use Prim.Native.Nat.{◌*◌}
use native.Mathlib.Omega.{arith}
use lib.ListN.{length}
use Rattle.ledger.specs.Lines.{digits_of}
use Rattle.ledger.proofs.Theorems.Lines.{length_digits}
use Rattle.line.proofs.Front.{front_end}
use Rattle.line.proofs.Digits.{digits_turn}
use Rattle.line.proofs.writing.put_digits.Goals as goal

pub loop-i-preserved : goal.loop-i-preserved
loop-i-preserved c =
    let a = c.args in
    let l = c.loop-i in
    digits_turn a.line.now a.frame.now l.line l.i c.digit.result c.digit-in-loop-i.result l.invariant c.digit.ensures c.digit-in-loop-i.ensures (omega arith) (omega arith)

pub returns : goal.returns
returns c =
    let a = c.args in
    let l = c.loop-i in
    let n = length_digits a.frame.now in
    front_end a.line.now (digits_of a.frame.now) l.line (2 * l.i) (2 * length a.frame.now) l.invariant (omega arith) (omega arith)
