-- `set_record` stores blocks, outcome and request; together they are the task.
use Rattle.tables.specs.Decode.{view_blocks, view_outcome, view_request}
use Rattle.tables.specs.Lent.{onward, by}
use Rattle.services.specs.Tasks.{record_set}
use Rattle.services.proofs.task.set_record.Goals as goal

pub returns : goal.returns
unfolding view_request
returns c =
    let a = c.args in
    let t = a.tables.now in
    by (onward (onward c.set_blocks.ensures c.set_outcome.ensures.does) c.set_request.ensures)
    (λ does tidy g L z w h. record_set g t.shape L t.bytes.now z w h a.t c.requires.0 (view_blocks a.b) (view_outcome a.o) _ (does tidy g L z w h))
