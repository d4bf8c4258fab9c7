-- The flag says which of the two.
use mathlib.Core.Path.{sym, subst}
use mathlib.Core.Bool.{Bool}
use Rattle.tables.specs.Planes.{NewBit}
use Rattle.tables.specs.OneBit.{bit_set, bit_cleared}
use Rattle.tables.proofs.planes.put_bit.Goals as goal

pub returns-then-on : goal.returns-then-on
returns-then-on c =
    subst (λ (v : Bool). NewBit c.args.i v c.args.x c.with_bit.result) (sym c.if-on.true) (bit_set c.args.x c.args.i _ c.with_bit.ensures)

pub returns-else-on : goal.returns-else-on
returns-else-on c =
    subst (λ (v : Bool). NewBit c.args.i v c.args.x c.without_bit.result) (sym c.if-on.false) (bit_cleared c.args.x c.args.i _ c.requires c.without_bit.ensures)
