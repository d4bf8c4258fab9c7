-- `receive_again` closes the request and issues it: a receive never meets 21.
use Rattle.tables.specs.Decode.{view_request}
use Rattle.ledger.specs.Ledger.{set_request, none}
use Rattle.tables.specs.Lent.{going}
use Rattle.tables.specs.Shows.{moved}
use Rattle.executive.specs.Meeting.{receive_again}
use Rattle.executive.proofs.settling.receive_again.Goals as goal

pub returns : goal.returns
unfolding view_request
returns c =
    let a = c.args in
    going c.set_request.ensures c.receive.ensures (λ closed receives tidy g L z w h.
    let M = set_request a.t none L in
    moved (receive_again g a.t a.from M) (receives tidy g M z w (closed tidy g L z w h)))
