-- `line::reading::is_line` meets its contract: of a line that is neither too long nor odd, the digits decide. Assumes nothing.
use mathlib.Core.Path.{◌∙◌}
use native.Mathlib.Omega.{arith}
use Rattle.line.proofs.Pairs.{long_line, odd_number, digits_decide}
use Rattle.line.proofs.reading.is_line.Goals as goal

pub returns-then-digits : goal.returns-then-digits
returns-then-digits c = rw (long_line c.args.line.now (omega arith))

pub returns-then-digits-ne0 : goal.returns-then-digits-ne0
returns-then-digits-ne0 c = rw (odd_number c.args.line.now (omega arith) c.if-digits-ne0.true)

pub returns : goal.returns
returns c =
    c.all_digits.ensures ∙ digits_decide c.args.line.now (omega arith) (omega arith)
