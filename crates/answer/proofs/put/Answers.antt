-- `put` writes the five bytes, one behind the other, and the value behind them.
use mathlib.Core.Path.{refl, ◌∙◌}
use mathlib.Core.List.{[], ◌∷◌}
use native.Mathlib.Omega.{arith}
use Prim.Native.Nat.{ℕ, ◌+◌}
use lib.ListN.{length}
use lib.Seq.{sets-eq}
use Rattle.answer.specs.Written.{parts, valued}
use Rattle.answer.proofs.put.Goals as goal

pub returns : goal.returns
returns c =
    let a = c.args in
    let v = a.value.now in
    let n : ℕ = length v + 4 in
    c.copy_short.ensures ∙ valued a.answer.now _ a.head n a.kind v (sets-eq (n ∷ parts a.head a.kind []) a.answer.now 0 (omega arith)) refl (omega arith)
