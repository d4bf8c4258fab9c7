use Rattle.rows.specs.Rows.{inserted}
use Rattle.rows.proofs.insert_at.Goals as goal

pub returns : goal.returns
returns c =
    let a = c.args in
    inserted a.w a.n a.at a.buf.now _ _ a.row.now c.requires.1 c.requires.0 c.requires.2 c.shift_up.ensures c.copy_in.ensures
