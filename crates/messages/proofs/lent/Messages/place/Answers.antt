-- The test tells of the pending message in the record whether it is behind.
use Rattle.std.proofs.Common.{rules}
use Rattle.messages.specs.Pending.{behind}
use Rattle.messages.specs.Looking.{pendings, searched}
use Rattle.messages.proofs.lent.Messages.place.Goals as goal

pub returns-clause-searched : goal.returns-clause-searched
returns-clause-searched c = let a = c.args in searched (pendings a.self.now.tasks a.self.now.count a.self.now.records.now) (behind a.to a.sender) _ c.first.ensures.answered (λ k b h e. search rules)
