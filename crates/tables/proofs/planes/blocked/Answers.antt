-- Each bit is a block of one of the four planes.
use Rattle.tables.specs.Words.{bit_blocked}
use native.Mathlib.Omega.{arith}
use Rattle.tables.proofs.planes.blocked.Goals as goal

pub returns : goal.returns
returns c =
    let a = c.args in
    bit_blocked a.planes.now (λ k. omega (arith, c.type_inv.planes k)) a.at _ _ _ _
    c.word.ensures
    c.word-2.ensures
    c.word-3.ensures
    c.word-4.ensures
