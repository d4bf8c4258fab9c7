-- The digits are written behind what is printed, and the line's end behind them.
use Prim.Native.Nat.{ℕ, ◌+◌, ◌-◌, ◌*◌}
use mathlib.Core.Path.{◌≡◌, subst, ◌∙◌}
use mathlib.Core.List.{◌++◌}
use borrow.Rule.Slice.PartMut.{put_mid}
use lib.ListN.{length, take, set}
use Rattle.rows.specs.Splice.{cut}
use Rattle.feeding.specs.Input.{print}
use Rattle.rows.specs.Laws.{length_cut}
use Rattle.feeding.specs.Printed.{printed_line}
use native.Mathlib.Omega.{arith}
use Rattle.feeding.proofs.printing.print.Goals as goal

pub returns : goal.returns
returns c =
    let a = c.args in
    let n = c.length_of-n in
    let k = n.ensures in (
      omega (arith, k.0),
      λ h. subst (λ (i : ℕ). take (a.printed + 2 * n.result + 1) (set (put_mid a.printed (length a.out.now - a.printed) a.out.now c.write.new.line) (a.printed + 2 * n.result) 0x0A) ≡ take a.printed a.out.now ++ print (cut a.answer.now 1 (1 + i))) (k.1 h)
          (printed_line a.out.now (cut a.answer.now 1 (1 + n.result)) _ _ a.printed n.result c.requires.1 (length_cut a.answer.now 1 (1 + n.result) (omega (arith, k.0, c.requires.0)) ∙ omega arith) k.0 c.write.ensures),
    )
