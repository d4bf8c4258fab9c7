-- `replace_at`: the rows up to the new place move down by one, and the row is copied behind them.
use Rattle.rows.specs.Rows.{replaced}
use Rattle.rows.proofs.replace_at.Goals as goal

pub returns : goal.returns
returns c =
    let a = c.args in
    replaced a.w a.n a.at a.to a.buf.now _ _ a.row.now c.requires.2 c.requires.0 c.requires.1 c.requires.3 c.shift_down.ensures c.copy_in.ensures
