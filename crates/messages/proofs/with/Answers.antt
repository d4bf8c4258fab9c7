-- The bit of a number up to 64 fits the word.
use Rattle.std.proofs.Common.{ℕ, ◌-◌, ◌^◌, ap, ◌∙◌, one-mul, arith, lit<, shl_exact}
use lib.Bits.{bit_or}
use Rattle.messages.proofs.with.Goals as goal

pub returns : goal.returns
returns c =
    let k : ℕ = c.args.x - 1 in
    ap (bit_or c.args.seen) (shl_exact 1 k 64 (lit< tt) (omega arith) ∙ one-mul (2 ^ k))
