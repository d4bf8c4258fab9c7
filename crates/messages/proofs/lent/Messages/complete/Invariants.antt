-- Each turn tests one number and sets its bit; as many bits as records are set just where none occurs twice.
use Rattle.messages.specs.Checks.{Checked}
use Rattle.messages.proofs.lent.Messages.complete.Given as goal

abbrev pub invariant-loop-k : goal.invariant-loop-k
invariant-loop-k l = Checked l.most l.self.count l.k l.seen l.self.records.now
