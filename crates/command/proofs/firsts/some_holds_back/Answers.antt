-- What is left to look at is the pairs from k on.
use native.Mathlib.Omega.{arith}
use mathlib.Core.Path.{refl, sym, ◌∙◌}
use Rattle.ledger.specs.Config.{pair_of}
use Rattle.ledger.specs.Refusals.{holds_back}
use Rattle.ledger.proofs.Theorems.Twos.{any_next, any_found, any_over}
use Rattle.command.proofs.firsts.some_holds_back.Goals as goal

pub loop-k-init : goal.loop-k-init
loop-k-init c = λ s f e g L z w h. refl

pub returns-then-holds_back : goal.returns-then-holds_back
returns-then-holds_back c =
    let l = c.loop-k in
    let a = c.args in
    λ s f e g L z w h. sym (l.invariant s f e g L z w h ∙ any_found pair_of (holds_back L a.a) l.k a.pairs.now (omega arith) (sym (c.holds_back.ensures s f e g L z w h) ∙ c.if-holds_back.true))

pub loop-k-preserved : goal.loop-k-preserved
loop-k-preserved c =
    let l = c.loop-k in
    let a = c.args in
    λ s f e g L z w h. l.invariant s f e g L z w h ∙ any_next pair_of (holds_back L a.a) l.k a.pairs.now (omega arith) (sym (c.holds_back.ensures s f e g L z w h) ∙ c.if-holds_back.false)

pub returns : goal.returns
returns c =
    let l = c.loop-k in
    let a = c.args in
    λ s f e g L z w h. sym (l.invariant s f e g L z w h ∙ any_over pair_of (holds_back L a.a) l.k a.pairs.now (omega arith))
