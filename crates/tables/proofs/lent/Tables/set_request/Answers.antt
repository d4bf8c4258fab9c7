-- `set_request` writes two bytes of a record.
use Rattle.std.proofs.Common.{rules}
use Rattle.tables.specs.Stored.{request_lent}
use Rattle.tables.proofs.lent.Tables.set_request.Goals as goal

pub returns : goal.returns
returns c =
    let a = c.args in
    let b = a.self.now in
    record {
      reference = search rules;
      shape = search rules;
      does = λ tidy g L z w h. request_lent g b.shape L b.bytes.now z w h a.t c.requires.0 c.put_request.new.row a.q c.requires.1 c.put_request.ensures;
    }
