-- The test reads the number in the record.
use Rattle.std.proofs.Common.{eqb, rules}
use Rattle.messages.specs.Looking.{numbers, searched}
use Rattle.messages.proofs.lent.Messages.number.Goals as goal

pub returns-clause-searched : goal.returns-clause-searched
returns-clause-searched c = let a = c.args in searched (numbers a.self.now.count a.self.now.records.now) (λ y. eqb y a.number) _ c.first.ensures.answered (λ k b h e. search rules)
