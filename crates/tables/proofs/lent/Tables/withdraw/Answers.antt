-- `withdraw` lends the semaphores' bytes, and takes them back cleared of the task.
use Rattle.std.proofs.Common.{rules}
use Rattle.tables.specs.Withdrawn.{withdrawn}
use Rattle.tables.proofs.lent.Tables.withdraw.Goals as goal

pub returns : goal.returns
returns c =
    let a = c.args in
    let b = a.self.now in
    record {
      reference = search rules;
      shape = search rules;
      does = λ tidy g L z w h. withdrawn g b.shape L b.bytes.now z w h a.t c.requires c.clear_all.new.part c.clear_all.ensures;
    }
