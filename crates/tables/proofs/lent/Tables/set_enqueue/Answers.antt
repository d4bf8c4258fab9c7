-- The entry's bytes are copied, and then the request is opened over them.
use Rattle.tables.specs.Waiting.{enqueue_waits}
use Rattle.tables.proofs.lent.Tables.set_enqueue.Goals as goal

pub returns : goal.returns
returns c =
    let a = c.args in
    let b = a.self.now in
    let s = c.set_request.ensures in
    record {
      reference = s.reference;
      shape = s.shape;
      does = λ tidy g L z w el h. enqueue_waits g b.shape L b.bytes.now z w h a.t c.requires.0 a.entry.now c.requires.2 a.q _ _ el c.copy_in.ensures s.does;
    }
