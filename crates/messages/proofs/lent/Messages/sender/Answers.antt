-- The test tells of the pending message in the record whether it is wanted.
use Rattle.std.proofs.Common.{rules}
use Rattle.messages.specs.Pending.{wanted_by}
use Rattle.messages.specs.Looking.{pendings, searched}
use Rattle.messages.proofs.lent.Messages.sender.Goals as goal

pub returns-clause-searched : goal.returns-clause-searched
returns-clause-searched c = let a = c.args in searched (pendings a.self.now.tasks a.self.now.count a.self.now.records.now) (wanted_by a.to a.from) _ c.first.ensures.answered (λ k b h e. search rules)
