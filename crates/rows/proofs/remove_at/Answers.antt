use mathlib.Core.Path.{ap, ◌∙◌}
use Prim.Native.Nat.{◌-◌}
use Rattle.rows.specs.Rows.{rows_of, rows_remove}
use Rattle.rows.proofs.remove_at.Goals as goal

pub returns : goal.returns
returns c =
    let a = c.args in
    ap (rows_of a.w (a.n - 1)) c.shift_down.ensures ∙ rows_remove a.w a.n a.at a.buf.now c.requires.1 c.requires.0
