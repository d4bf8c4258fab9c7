-- A row taken out is a record taken out.
use Rattle.messages.specs.Records.{removed}
use Rattle.messages.proofs.remove.Goals as goal

pub returns : goal.returns
returns c =
    let a = c.args in
    let r = c.remove_at in
    removed a.n a.k a.b.now r.new.buf r.ensures
