-- `line::writing::write` meets its contract: its ways out are the ledger's three cases, and the digits are written in the last.
-- Assumes nothing.
use Prim.Native.Nat.{◌*◌}
use native.Mathlib.Omega.{arith}
use lib.ListN.{length}
use Rattle.ledger.specs.Lines.{digits_of, line_of, write_line}
use Rattle.ledger.proofs.Theorems.Lines.{length_digits}
use Rattle.line.proofs.Digits.{long_frame, short_frame}
use Rattle.line.proofs.Giving.{gives_1, gives_11, gives_result}
use Rattle.line.proofs.writing.write.Goals as goal

pub returns-then-bytes-gt-LONGEST_FRAME : goal.returns-then-bytes-gt-LONGEST_FRAME
unfolding write_line
returns-then-bytes-gt-LONGEST_FRAME c =
    let a = c.args in
    gives_1 (line_of a.frame.now) a.line.now (long_frame a.frame.now (omega arith))

pub returns-then-line-digits : goal.returns-then-line-digits
unfolding write_line
returns-then-line-digits c =
    let a = c.args in
    let n = length_digits a.frame.now in
    gives_11 (line_of a.frame.now) a.line.now (digits_of a.frame.now) (short_frame a.frame.now (omega arith)) (omega arith)

pub returns : goal.returns
unfolding write_line
returns c =
    let a = c.args in
    let n = length_digits a.frame.now in
    gives_result (line_of a.frame.now) a.line.now (digits_of a.frame.now) (short_frame a.frame.now (omega arith)) _ (2 * length a.frame.now) (omega arith) n
    c.put_digits.ensures
