-- The ways out, one after the other.
use Rattle.std.proofs.Common.{sym, ◌∙◌, arith}
use borrow.Author.Tests.{lt-leb, leb-true, leb-false}
use Rattle.ledger.proofs.Theorems.Checks.{never}
use Rattle.configuration.specs.Limits.{limits_of}
use Rattle.configuration.specs.Kept.{counts_long, counts_short, counts_few}
use Rattle.configuration.proofs.block.counts.Goals as goal
use Rattle.configuration.proofs.block.counts.Goals.{then-n-longest, else-n-longest}

pub returns-then-n-front : goal.returns-then-n-front
returns-then-n-front c =
    let m = limits_of c.args.limits in
    elim c.if-n-longest.branch [
      | then-n-longest w ↦
          let h = leb-true w.front.result c.args.n (sym w.value-is ∙ c.if-n-front.true) in
          sym (counts_few m c.args.bytes.now c.args.n c.requires (omega (arith, w.if-n-longest.true, c.longest.ensures.0)) (omega (arith, h, w.front.ensures)) _ c.few_enough.ensures)
      | else-n-longest w ↦ never (sym (w.value-is ∙ lt-leb c.args.n c.longest.result w.if-n-longest.false) ∙ c.if-n-front.true)
    ]

pub returns-else-n-front : goal.returns-else-n-front
returns-else-n-front c =
    let m = limits_of c.args.limits in
    elim c.if-n-longest.branch [
      | then-n-longest w ↦
          let h = leb-false w.front.result c.args.n (sym w.value-is ∙ c.if-n-front.false) in
          c.if-n-front.false ∙ sym (counts_short m c.args.bytes.now c.args.n c.requires (omega (arith, w.if-n-longest.true, c.longest.ensures.0)) (omega (arith, h, w.front.ensures)))
      | else-n-longest w ↦ c.if-n-front.false ∙ sym (counts_long m c.args.bytes.now c.args.n c.requires (omega (arith, w.if-n-longest.false, c.longest.ensures.0)))
    ]
