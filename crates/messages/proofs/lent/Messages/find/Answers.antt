-- The place is what the search gave, of the first record that is wanted.
use Rattle.messages.specs.Records.{found_first}
use Rattle.messages.proofs.lent.Messages.find.Goals as goal

pub returns : goal.returns
returns c = let a = c.args in found_first a.self.now.tasks a.self.now.count a.to a.from a.self.now.records.now _ c.sender.ensures.searched
