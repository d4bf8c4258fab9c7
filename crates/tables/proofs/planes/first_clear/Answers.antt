-- The zeros below the lowest bit of the complement.
use native.Mathlib.Omega.{arith}
use Rattle.tables.specs.Bits.{first_clear, none_clear}
use Rattle.tables.proofs.planes.first_clear.Goals as goal

pub returns-then-x-eq18446744073709551615 : goal.returns-then-x-eq18446744073709551615
returns-then-x-eq18446744073709551615 c = none_clear c.args.x c.if-x-eq18446744073709551615.true

pub returns : goal.returns
returns c = first_clear c.args.x (omega arith) c.if-x-eq18446744073709551615.false
