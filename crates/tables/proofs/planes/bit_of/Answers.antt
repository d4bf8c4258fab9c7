-- A bit is a shift and a test.
use Rattle.tables.specs.Bits.{bit_shift}
use mathlib.Core.Path.{sym}
use Rattle.tables.proofs.planes.bit_of.Goals as goal

pub returns : goal.returns
returns c = sym (bit_shift c.args.x c.args.i)
