-- `drop_first` takes the first message out, and signals for it; where there is none, nothing changes.
use Rattle.tables.specs.Lent.{by, both}
use Rattle.services.specs.Dropped.{first_none, first_one}
use Rattle.services.proofs.message.drop_first.Goals as goal

pub returns-in_default : goal.returns-in_default
returns-in_default c =
    let t = c.args.tables.now in
    let k = c.take.ensures in
    let p = first_none t.shape t.bytes.now c.args.t _ (k.tells, k.does.does) c.in_default.is in
    record { does = by k.does (λ takes. p.0); tells = p.1 }

pub returns : goal.returns
returns c =
    let t = c.args.tables.now in
    let k = both c.take.ensures.does c.signal.ensures.does in
    let p = first_one t.shape t.bytes.now c.args.t _ (c.take.ensures.tells, k.does.0) _ c.in-Some.is k.does.1 in
    record { does = by k (λ both. p.0); tells = p.1 }
