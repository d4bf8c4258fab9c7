-- `is_open` goes by the request in the task's record, which is what the ledger shows of it.
use Prim.Native.Nat.{◌≤◌}
use native.Mathlib.Omega.{arith}
use mathlib.Core.Path.{refl, ap, ◌∙◌}
use Rattle.tables.specs.Decode.{view_request}
use Rattle.ledger.specs.Session.{is_open}
use Rattle.ledger.proofs.Theorems.Checks.{never}
use Rattle.executive.specs.Meeting.{null_closed, request_is, some_open}
use Rattle.executive.proofs.settling.is_open.Goals.{in-None, in_default}
use Rattle.executive.proofs.settling.is_open.Goals as goal

pub returns-then-t-eq0 : goal.returns-then-t-eq0
returns-then-t-eq0 c = (λ e. never e, λ g L z w h. null_closed L _ c.if-t-eq0.true)

pub returns : goal.returns
unfolding view_request is_open
returns c =
    let a = c.args in
    let b = a.tables.now in
    let lo : 1 ≤ a.t = omega arith in (
      λ e. lo,
      λ g L z w h. elim c.match-matches.branch [
        | in-None k ↦ rw k.matches-is (ap is_open (request_is g b.shape L b.bytes.now z w h a.t _ _ (lo, c.requires) (ap (λ x. x.request) c.task.ensures.0) k.in-None.is))
        | in_default k ↦ rw k.matches-is (some_open g _ c.task.result.request k.in_default.not-None ∙ ap is_open (request_is g b.shape L b.bytes.now z w h a.t _ _ (lo, c.requires) (ap (λ x. x.request) c.task.ensures.0) refl))
      ],
    )
