-- `tocks::long_tock_value` meets its contract: the three cases of a signed number are those of its bits (`Signs`), and the opposite
-- of a negative one is computed in 64 bits, where -2,147,483,648 has one (`Opposite`). Assumes nothing.
use Rattle.std.specs.Int.{w32, w64}
use Rattle.ledger.specs.Time.{long_tock_value, signed}
use Rattle.tocks.proofs.Opposite.{positive_asked, opposite_asked}
use Rattle.tocks.proofs.long_tock_value.Goals as goal

pub returns-then-x-eq0 : goal.returns-then-x-eq0
unfolding long_tock_value signed
returns-then-x-eq0 c = rw c.if-x-eq0.true

pub returns-then-x-gt0 : goal.returns-then-x-gt0
unfolding long_tock_value
returns-then-x-gt0 c = positive_asked w32 w64 w32 tt tt c.args.x c.ranges.x c.if-x-gt0.true

pub returns : goal.returns
unfolding long_tock_value
returns c = opposite_asked w32 w64 w32 tt tt c.args.x c.ranges.x c.if-x-gt0.false c.if-x-eq0.false
