-- A width or depth of 0, or too wide.
use Rattle.std.proofs.Common.{◌/◌, ◌%◌, sym, ◌∙◌, arith}
use Rattle.configuration.specs.Room.{too_wide, no_bytes}
use Rattle.configuration.proofs.frame.bytes_or_none.Goals as goal
use Rattle.configuration.proofs.frame.bytes_or_none.Goals.{then-bytes-eq0-via-then-bytes-eq0, then-bytes-eq0-via-else-bytes-eq0+then-size-gt16}

pub returns-then-bytes-eq0 : goal.returns-then-bytes-eq0
returns-then-bytes-eq0 c =
    let x = c.args.size in
    elim c.then-bytes-eq0.branch [
      | then-bytes-eq0-via-then-bytes-eq0 w ↦ (no_bytes (x % 256) (x / 256) (sym c.bytes_of-bytes.ensures.0 ∙ w.if-bytes-eq0.true), omega arith)
      | then-bytes-eq0-via-else-bytes-eq0+then-size-gt16 w ↦ (too_wide (x % 256) (x / 256) (omega (arith, w.if-size-gt16.true)), omega arith)
    ]
