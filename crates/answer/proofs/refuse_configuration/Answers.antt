-- `refuse_configuration` writes an answer of kind 0 for task 0 with 0 reissues: the number and 000000.
use Rattle.ledger.specs.Session.{refused_configuration}
use Rattle.answer.proofs.refuse_configuration.Goals as goal

pub returns : goal.returns
unfolding refused_configuration
returns c = c.put.ensures
