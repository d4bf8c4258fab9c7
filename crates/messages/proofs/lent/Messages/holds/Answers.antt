-- The search for the number gives a place just where it occurs.
use Rattle.std.proofs.Common.{sym, ap, ◌∙◌, is_some}
use Rattle.messages.specs.Records.{found_number}
use Rattle.messages.proofs.lent.Messages.holds.Goals as goal

pub returns-in-Some : goal.returns-in-Some
returns-in-Some c = sym (ap is_some c.in-Some.is) ∙ found_number c.args.self.now.count c.args.number c.args.self.now.records.now _ c.number.ensures.searched

pub returns-in_default : goal.returns-in_default
returns-in_default c = sym (ap is_some c.in_default.is) ∙ found_number c.args.self.now.count c.args.number c.args.self.now.records.now _ c.number.ensures.searched
