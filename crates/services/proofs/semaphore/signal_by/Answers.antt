-- `signal_by` signals, then shows the task that was woken.
use Rattle.std.proofs.Common.{◌≡◌, ℕ, sym, ap, ◌∙◌, Option, unwrap_or}
use Rattle.tables.specs.Decode.{view_outcome}
use Rattle.tables.specs.Lent.{going}
use Rattle.services.specs.Semaphores.{signal_shown}
use Rattle.services.proofs.semaphore.signal_by.Goals as goal
use Rattle.services.proofs.semaphore.signal_by.Goals.{in-Some, in-None}

pub returns : goal.returns
unfolding view_outcome
returns c =
    let a = c.args in
    let s = c.signal in
    let e : c.match-signal.w ≡ unwrap_or s.result 0 =
    elim c.match-signal.branch [
      | in-Some v ↦ v.w-is ∙ sym (ap (λ (o : Option ℕ). unwrap_or o 0) v.in-Some.is)
      | in-None v ↦ v.w-is ∙ sym (ap (λ (o : Option ℕ). unwrap_or o 0) v.in-None.is)
    ] in
    going s.ensures.does c.set_outcome.ensures.does (λ signals shows. signal_shown _ _ _ _ a.t a.b c.match-signal.w signals (λ g L z w h. e ∙ s.ensures.tells g L z w h) shows)
