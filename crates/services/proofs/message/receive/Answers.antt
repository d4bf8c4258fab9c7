-- `receive` takes the first wanted message and shows it; where there is none the task waits for a message, request open.
use Rattle.tables.specs.Decode.{view_outcome, view_request}
use Rattle.tables.specs.Lent.{going, both}
use Rattle.services.specs.Messages.{received_none, received_one}
use Rattle.services.proofs.message.receive.Goals as goal

pub returns-in-None : goal.returns-in-None
unfolding view_request
returns-in-None c =
    let a = c.args in
    let t = a.tables.now in
    going c.take.ensures.does (both c.set_block.ensures c.set_request.ensures) (λ takes p tidy g L z w h. received_none g t.shape L t.bytes.now z w h a.t a.from _ c.in-None.is (c.take.ensures.tells, takes) p.0 p.1)

pub returns-in-Some : goal.returns-in-Some
unfolding view_outcome
returns-in-Some c =
    let a = c.args in
    let t = a.tables.now in
    going c.take.ensures.does c.set_outcome.ensures.does (λ takes shows tidy g L z w h. received_one g t.shape L t.bytes.now z w h a.t a.from _ _ c.in-Some.is (c.take.ensures.tells, takes) shows)
