-- The pair is another task's, or its first is no task, or the first's idle block decides.
use mathlib.Core.Path.{refl, sym, ap, subst, ◌∙◌}
use Prim.Native.Nat.{ℕ}
use mathlib.Core.Bool.{not}
use borrow.Author.Tests.{not-true, not-false}
use native.Mathlib.Omega.{arith}
use Rattle.std.proofs.Common.{eqb-true}
use Rattle.ledger.specs.Lists.{within}
use Rattle.tables.specs.Layout.{OneOf}
use Rattle.tables.specs.Blocks.{idle_is}
use Rattle.command.specs.State.{idle_in}
use Rattle.command.specs.Firsts.{of_another, of_nobody, of_first, one_of}
use Rattle.command.proofs.firsts.holds_back.Goals.{then-then-a, else-then-a}
use Rattle.command.proofs.firsts.holds_back.Goals as goal

pub is_idle-requires : goal.is_idle-requires
is_idle-requires c =
    let a = c.args in
    elim c.if-then-a.branch [
      | then-then-a w ↦ let o = one_of a.tasks a.first _ refl (sym w.outside.ensures ∙ not-true _ (sym w.value-is ∙ c.if-not-outside.true)) in (c.requires.0, (o.0, omega (arith, o.1, c.requires.1)))
      | else-then-a w ↦ absurd (w.if-then-a.false (eqb-true _ _ (sym w.value-is ∙ c.if-not-outside.true)))
    ]

pub returns-then-not-outside : goal.returns-then-not-outside
returns-then-not-outside c =
    let a = c.args in
    λ s f e. elim c.if-then-a.branch [
      | then-then-a w ↦ let o = one_of _ _ _ refl (sym w.outside.ensures ∙ not-true _ (sym w.value-is ∙ c.if-not-outside.true)) in let p = subst (λ (n : ℕ). OneOf n a.first) (sym e) o in of_first s a.tables.now a.a a.first a.then w.if-then-a.true _ (idle_in p (c.is_idle.ensures ∙ idle_is a.tables.now a.first f))
      | else-then-a w ↦ absurd (w.if-then-a.false (eqb-true _ _ (sym w.value-is ∙ c.if-not-outside.true)))
    ]

pub returns-else-not-outside : goal.returns-else-not-outside
returns-else-not-outside c =
    let a = c.args in
    λ s f e. elim c.if-then-a.branch [
      | then-then-a w ↦ rw c.if-not-outside.false (of_nobody s a.tables.now a.a a.first a.then w.if-then-a.true _ refl (ap (λ (n : ℕ). not (within 1 n a.first)) e ∙ sym w.outside.ensures ∙ not-false _ (sym w.value-is ∙ c.if-not-outside.false)))
      | else-then-a w ↦ rw c.if-not-outside.false (of_another s a.tables.now a.a a.first a.then w.if-then-a.false)
    ]
