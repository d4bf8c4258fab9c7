-- `set_semaphore` writes one byte of the semaphores' region.
use Rattle.std.proofs.Common.{rules}
use Rattle.tables.specs.Semaphores.{semaphore_stored}
use Rattle.tables.proofs.lent.Tables.set_semaphore.Goals as goal

pub returns : goal.returns
returns c =
    let a = c.args in
    let b = a.self.now in
    record {
      reference = search rules;
      shape = search rules;
      does = λ tidy g L z w h. rw c.from.ensures (semaphore_stored g b.shape L b.bytes.now z w h a.b c.requires.0 a.s c.requires.1);
    }
