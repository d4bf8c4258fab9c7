-- `terminate` withdraws the wait, takes out the timers, drops the messages, and sets the record of an idle task.
use mathlib.Core.Bool.{true}
use Rattle.tables.specs.Decode.{view_blocks, view_outcome}
use Rattle.tables.specs.Lent.{going, onward}
use Rattle.clock.specs.Does.{purged}
use Rattle.ledger.specs.Services as ledger
use Rattle.services.specs.Tasks.{terminated}
use Rattle.services.proofs.task.terminate.Goals as goal

pub returns : goal.returns
unfolding view_blocks view_outcome
returns c =
    let a = c.args in
    let t = a.tables.now in
    let purges = rw c.withdraw.ensures.shape at (c.purge.ensures) in
    going c.withdraw.ensures (onward c.drop_messages.ensures c.set_record.ensures)
    (λ withdraws ends tidy g L z h.
    let L₁ = ledger.withdraw_wait a.a L in
    terminated g t.shape L _ z _ a.a (ends tidy g (purged a.a true 0 L₁) z _ (purges tidy g L₁ _ z (withdraws tidy g L z _ h))))
