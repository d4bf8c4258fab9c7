-- The records that are searched are those that the count says, which the ledger's mailboxes hold.
use Rattle.mailboxes.specs.Operations.{holds_told}
use Rattle.mailboxes.proofs.holds.Goals as goal

pub returns : goal.returns
returns c =
    let a = c.args in
    let m = c.pending_in in
    λ g L z w h. holds_told g a.shape L a.tables.now z w h m.result.count m.ensures.count a.number c.holds.result (rw m.ensures.records at c.holds.ensures)
